use Rattle.std.proofs.Common.{ap}
use Rattle.std.proofs.lemmas.Result.{err_from_is_err_and}
use Rattle.turn_log.proofs.HeardLaws.{heard_turn, heard_same}
use Rattle.source_session.specs.Places.{ring_answer}
use Rattle.source_session.proofs.CallLemmas.{holding_published, given_none, given_more, given_all, given_cutter, given_refused}
use Rattle.source_session.proofs.TakenLemmas.{stays_here, stays_both}
use Rattle.source_session.proofs.publish.publish_ready.Goals as goal

pub loop-frame-init : goal.loop-frame-init
loop-frame-init g c = (
  stays_here g.T.Turns c.args.place.now,
  c.requires.holds,
  given_none _ _ _ c.args.me c.args.claim c.args.cutter.now,
)

pub loop-frame-preserved : goal.loop-frame-preserved
loop-frame-preserved g c =
    let place = g.T.Turns in
    let before = c.loop-frame.invariant in
    let now = c.in_ok-turn.ensures in (
      stays_both place _ _ _ before.0 (record { same = now.same; worn = now.worn }),
      holding_published (place.shape c.loop-frame.place) before.1 now.ok,
      given_more before.2 c.in-Some.ensures.found c.in-Some.ensures.in_front
          (heard_same before.0.same.3 (ap ring_answer before.0.same.0) (heard_turn now.ok)),
    )

pub returns-clause-cutter : goal.returns-clause-cutter
returns-clause-cutter g c =
    given_cutter c.loop-frame.invariant.2 c.in_default.ensures.none.0 c.in_default.ensures.none.1

pub returns-clause-heard : goal.returns-clause-heard
returns-clause-heard g c =
    given_all c.loop-frame.invariant.2 c.in_default.ensures.none.0 c.in_default.ensures.none.1

pub returns-in_err-turn-clause-stays : goal.returns-in_err-turn-clause-stays
returns-in_err-turn-clause-stays g c =
    let now = c.in_err-turn.ensures in
    stays_both g.T.Turns _ _ _ c.loop-frame.invariant.0 (record { same = now.same; worn = now.worn })

pub returns-in_err-turn-clause-short : goal.returns-in_err-turn-clause-short
returns-in_err-turn-clause-short g c =
    let p = err_from_is_err_and c.from_residual.result c.from_residual.ensures.1 in
    rw p.1 (λ before sum counted.
    given_refused c.loop-frame.invariant.2 c.in-Some.ensures.found c.in-Some.ensures.in_front c.in_err-turn.ensures.err.0
    before sum counted)
