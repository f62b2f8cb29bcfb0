use Rattle.std.proofs.Common.{◌<◌, ℕ, [], ◌∷◌, ◌++◌, length, get_or, sym, subst, length-append, arith, refl}
use Rattle.turn_log.specs.Desks.{desk_seen}
use Rattle.mount_ring.specs.declared.RingShape.{RingShape}
use Rattle.upstream_relay.specs.Standing.{halt_at}
use Rattle.upstream_relay.proofs.HeldLemmas.{held_by, holds_fed}
use Rattle.session_tests.proofs.relay_tests.answered_by_bytes.Goals as goal

pub feed-ended-requires-clause-held : goal.feed-ended-requires-clause-held
feed-ended-requires-clause-held c =
    let relay = c.loop-byte.relay in
    held_by relay.me relay.stage (desk_seen c.loop-byte.desk) c.loop-byte.invariant.0

pub loop-byte-preserved : goal.loop-byte-preserved
loop-byte-preserved c =
    let relay = c.loop-byte.relay in
    let fed = c.feed-ended.ensures in
    let now = c.feed-ended.new.self in
    let so_far = c.loop-byte.invariant.1 in
    let byte : ℕ = get_or c.args.answer.now c.loop-byte.byte-index 0 in
    let next = fed.adds so_far.0 so_far.1 so_far.2 so_far.3 in (
      holds_fed _ relay now (desk_seen c.feed-ended.new.place) (halt_at relay.stage) refl fed.halted fed.holds
          fed.relay.0,
      (
        so_far.0,
        so_far.1 ++ byte ∷ [],
        so_far.2 ++ next.0,
        next.2,
        omega (arith, length-append so_far.1 (byte ∷ []), so_far.4),
      ),
      subst (λ (s : RingShape). 0 < length s.filters) (sym fed.stays.same.0) c.loop-byte.invariant.2,
    )
