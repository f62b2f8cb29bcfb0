use Rattle.std.proofs.Common.{refl, [], ◌-◌, length, drop, arith, length-take, length-drop}
use Rattle.turn_log.specs.Desks.{desk_seen}
use Rattle.upstream_relay.specs.Standing.{halt_at}
use Rattle.upstream_relay.proofs.HeldLemmas.{held_fed}
use Rattle.session_tests.proofs.relay_tests.answered_in_two.Goals as goal

pub feed-ended-requires-clause-held : goal.feed-ended-requires-clause-held
feed-ended-requires-clause-held c =
    let relay = c.in_ok-relay.relay in
    let fed = c.feed-first.ensures in
    held_fed _ relay c.feed-first.new.self (desk_seen c.feed-first.new.place) (halt_at relay.stage) refl fed.halted
    fed.holds
    fed.relay.0

pub feed-ended-requires-clause-few : goal.feed-ended-requires-clause-few
feed-ended-requires-clause-few c =
    let next = c.feed-first.ensures.adds 0 [] [] (c.in_ok-relay.ensures.stands 0) in
    let answer = c.args.answer.now in
    let at = c.args.at in (
      0,
      _,
      _,
      next.2,
      omega (
        arith,
        length-take at answer,
        length-drop at answer,
        length-take (length answer - at) (drop at answer),
        c.requires.few,
        c.requires.within,
      ),
    )
