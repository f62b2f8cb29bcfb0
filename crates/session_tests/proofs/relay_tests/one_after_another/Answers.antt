use Rattle.std.proofs.Common.{[], arith, sym, ◌∙◌}
use Rattle.turn_log.specs.Desks.{desk_seen}
use Rattle.upstream_relay.proofs.HeldLemmas.{held_claim}
use Rattle.session_tests.proofs.relay_tests.one_after_another.Goals as goal

pub feed-given-requires-clause-few : goal.feed-given-requires-clause-few
feed-given-requires-clause-few c = (0, [], [], c.in_ok-first.ensures.stands 0, omega arith)

pub feed-next-requires-clause-few : goal.feed-next-requires-clause-few
feed-next-requires-clause-few c = (0, [], [], c.in_ok-second.ensures.stands 0, omega arith)

pub release-requires-clause-claimed : goal.release-requires-clause-claimed
release-requires-clause-claimed c =
    let is = sym c.claim_number.ensures ∙ c.in-Some.is in (
      c.in-Some.claim,
      is,
      held_claim c.in_ok-first.first c.feed-given.new.self c.in-Some.claim (desk_seen c.feed-given.new.place)
          c.in_ok-first.ensures.goes_on c.feed-given.ensures.holds c.feed-given.ensures.relay.0 is,
    )

pub release-requires-clause-stands : goal.release-requires-clause-stands
release-requires-clause-stands c =
    let next = c.feed-given.ensures.adds 0 [] [] (c.in_ok-first.ensures.stands 0) in (0, _, _, next.2)
