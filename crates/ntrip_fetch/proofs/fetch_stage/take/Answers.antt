-- By how far the fetch is.
use Rattle.std.proofs.Common.{◌++◌, drop, subst}
use Rattle.std.specs.Prelude.{is_some}
use Rattle.ntrip_fetch.specs.Stages.{IsAtStage, StageTorn}
use Rattle.ntrip_fetch.proofs.WritingLemmas.{on_err, on_err_so, if_ok_so}
use Rattle.ntrip_fetch.proofs.StageLemmas.{body_more, body_torn}
use Rattle.ntrip_fetch.proofs.fetch_stage.take.Goals as goal

pub returns-in_err-decide-in-Head-clause-torn : goal.returns-in_err-decide-in-Head-clause-torn
returns-in_err-decide-in-Head-clause-torn g c =
    on_err c.from_residual.result _ (λ start before x.
    let y = subst (λ stage. IsAtStage start (g.O.Sink.taken c.args.out.now) c.args.most stage before c.args.count.now)
    c.in-Head.is x in
    subst (λ l. StageTorn start (g.O.Sink.taken c.decide.new.out) c.args.most (l ++ c.args.bytes.now)) y.0
    (c.in_err-decide-in-Head.ensures.torn start y.2))

pub returns-in-Body-clause-took : goal.returns-in-Body-clause-took
returns-in-Body-clause-took g c =
    if_ok_so c.take_body.result _ _ (λ left told start before x.
    let y = subst (λ stage. IsAtStage start (g.O.Sink.taken c.args.out.now) c.args.most stage before c.args.count.now)
    c.in-Body.is x in
    body_more start _ c.args.most c.in-Body.body c.take_body.new.body before c.args.bytes.now y.at c.take_body.new.count
    left y.says c.take_body.ensures.same (told start (drop y.at before) y.stands)) c.take_body.ensures.took

pub returns-in-Body-clause-torn : goal.returns-in-Body-clause-torn
returns-in-Body-clause-torn g c =
    on_err_so c.take_body.result _ _ (λ told start before x.
    let y = subst (λ stage. IsAtStage start (g.O.Sink.taken c.args.out.now) c.args.most stage before c.args.count.now)
    c.in-Body.is x in
    body_torn start _ c.args.most (is_some c.in-Body.body.chunks) before c.args.bytes.now y.at y.says
    (told start (drop y.at before) y.stands)) c.take_body.ensures.torn
