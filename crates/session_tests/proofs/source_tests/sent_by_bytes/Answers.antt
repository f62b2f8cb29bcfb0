use Rattle.std.proofs.Common.{[], ◌∷◌, ◌++◌, length, sym, subst, length-append, arith, refl, ◌<◌, ℕ, get_or}
use Rattle.turn_log.specs.Desks.{desk_seen}
use Rattle.mount_ring.specs.declared.RingShape.{RingShape}
use Rattle.source_session.proofs.HeldLemmas.{held_on, holds_fed}
use Rattle.source_session.proofs.TakenLemmas.{none_weaker}
use Rattle.session_tests.proofs.source_tests.sent_by_bytes.Goals as goal

pub feed-ended-requires-clause-held : goal.feed-ended-requires-clause-held
feed-ended-requires-clause-held c =
    let session = c.loop-byte.session in
    held_on session.halt session.me session.claim (desk_seen c.loop-byte.desk) c.loop-byte.invariant.0

pub loop-byte-preserved : goal.loop-byte-preserved
loop-byte-preserved c =
    let session = c.loop-byte.session in
    let fed = c.feed-ended.ensures in
    let now = c.feed-ended.new.self in
    let body = c.loop-byte.invariant.1 in
    let byte : ℕ = get_or c.args.body.now c.loop-byte.byte-index 0 in (
      holds_fed _ session now (desk_seen c.feed-ended.new.place) session.halt refl fed.halted
          (none_weaker session.halt (λ taken. taken.holds) fed.taken) fed.source.0 fed.source.1,
      (body.0 ++ byte ∷ [], fed.stands body.0 body.1, omega (arith, length-append body.0 (byte ∷ []), body.2)),
      subst (λ (s : RingShape). 0 < length s.filters) (sym fed.stays.same.0) c.loop-byte.invariant.2,
    )
