use Rattle.std.proofs.Common.{◌∙◌, rules, [], None, ap, sym, subst}
use Rattle.session_model.specs.Judged.{Judged, rover_judged}
use Rattle.session_core.specs.Begun.{BeginsFor}
use Rattle.session_core.specs.Places.{alone_in, seen_in, worn_in}
use Rattle.session_core.proofs.BegunLemmas.{denied_cause}
use Rattle.session_core.proofs.judging.judge_rover.Goals as goal

pub returns-in-Err-Denied-clause-begins : goal.returns-in-Err-Denied-clause-begins
returns-in-Err-Denied-clause-begins g c =
    let config = c.args.setup.now.config.now in
    let alone = alone_in g.T.Turns g.B.Turns c.args.places.now in
    let old = seen_in g.T.Turns g.B.Turns c.args.places.now in
    let is = rw c.in-Err-Denied.field-0-is at c.in-Err-Denied.ensures in
    subst (λ (j : Judged). BeginsFor config alone old old c.args.setup.now.me j c.finish.result.stage
    c.finish.result.ended c.args.out.now.items c.finish.new.out.items)
    ((rw c.in-Err-Denied.field-0-is at (c.denial_answer.ensures c.args.version c.args.first)) ∙ ap (rover_judged c.args.version c.args.first []) (sym is))
    (c.finish.ensures.begins config alone old c.args.setup.now.me (search rules))

pub returns-in-Err-Denied-clause-cause : goal.returns-in-Err-Denied-clause-cause
returns-in-Err-Denied-clause-cause g c =
    let worn = worn_in g.T.Turns g.B.Turns c.args.places.now in
    c.finish.ensures.cause worn (denied_cause worn _ _ c.denial_answer.result.1 (c.denial_answer.ensures None None))
