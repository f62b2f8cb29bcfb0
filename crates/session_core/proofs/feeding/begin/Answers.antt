use Rattle.std.proofs.Common.{ap, refl, subst, Ok, Err, Some}
use Rattle.ntrip_head.specs.Ends.{IsEndOf}
use Rattle.session_model.specs.Judged.{Judged}
use Rattle.session_core.specs.Begun.{BeginsFor}
use Rattle.session_core.specs.Places.{alone_in, seen_in, worn_in}
use Rattle.session_core.proofs.AskingLemmas.{tells_whole}
use Rattle.session_core.proofs.BegunLemmas.{refused_head_cause}
use Rattle.session_core.proofs.EarthLemmas.{head_on_earth}
use Rattle.session_core.proofs.FeedHeadLemmas.{long_begun, read_says, refused_says, whole_begun}
use Rattle.session_core.proofs.feeding.begin.Goals as goal

pub begin_request-begun-requires-clause-first : goal.begin_request-begun-requires-clause-first
begin_request-begun-requires-clause-first g c =
    let whole = subst (IsEndOf c.requires.ended.0) c.in-Whole.is c.requires.ended.1 in
    head_on_earth c.requires.ended.0 (Ok c.in-Ok.request)
    (read_says c.requires.ended.0 _ c.in-Ok.request c.in-Ok.is whole.1)

pub returns-in-Long-clause-begun : goal.returns-in-Long-clause-begun
returns-in-Long-clause-begun g c = λ head ended.
    let config = c.args.setup.now.config.now in
    let old = seen_in g.T.Turns g.B.Turns c.args.places.now in
    let alone = alone_in g.T.Turns g.B.Turns c.args.places.now in
    long_begun config alone old c.args.setup.now.me head c.finish.result.stage
    c.finish.result.ended c.args.out.now.items c.finish.new.out.items
    (subst (IsEndOf head) c.in-Long.is ended)
    (c.finish.ensures.begins config alone old c.args.setup.now.me c.requires.ready.table_is)

pub returns-in-Long-clause-cause : goal.returns-in-Long-clause-cause
returns-in-Long-clause-cause g c = c.finish.ensures.cause (worn_in g.T.Turns g.B.Turns c.args.places.now) tt

pub returns-in-Ok-clause-begun : goal.returns-in-Ok-clause-begun
returns-in-Ok-clause-begun g c = λ head ended.
    let begun = c.begin_request-begun in
    let whole = subst (IsEndOf head) c.in-Whole.is ended in
    whole_begun c.args.setup.now.config.now (alone_in g.T.Turns g.B.Turns c.args.places.now)
    (seen_in g.T.Turns g.B.Turns c.args.places.now) (seen_in g.T.Turns g.B.Turns begun.new.places)
    c.args.setup.now.me head (Ok c.in-Ok.request) begun.result.stage begun.result.ended c.args.out.now.items
    begun.new.out.items whole.0
    (read_says head _ c.in-Ok.request c.in-Ok.is whole.1) begun.ensures.begins

pub returns-in-Refused-clause-begun : goal.returns-in-Refused-clause-begun
returns-in-Refused-clause-begun g c = λ head ended.
    let config = c.args.setup.now.config.now in
    let alone = alone_in g.T.Turns g.B.Turns c.args.places.now in
    let seen = seen_in g.T.Turns g.B.Turns c.args.places.now in
    let finish = c.finish-in-Refused in
    let whole = subst (IsEndOf head) c.in-Whole.is ended in
    whole_begun config alone seen seen c.args.setup.now.me head (Err c.in-Refused.fault) finish.result.stage
    finish.result.ended c.args.out.now.items finish.new.out.items whole.0
    (refused_says head _ _ c.in-Refused.fault c.in-Err.is c.in-Refused.is whole.1)
    (subst (λ (j : Judged). BeginsFor config alone seen seen c.args.setup.now.me j finish.result.stage
    finish.result.ended c.args.out.now.items finish.new.out.items)
    c.refused_head-last.ensures
    (finish.ensures.begins config alone seen c.args.setup.now.me c.requires.ready.table_is))

pub returns-in-Refused-clause-cause : goal.returns-in-Refused-clause-cause
returns-in-Refused-clause-cause g c =
    let worn = worn_in g.T.Turns g.B.Turns c.args.places.now in
    c.finish-in-Refused.ensures.cause worn (refused_head_cause worn _ _ c.refused_head-last.result.1
    c.refused_head-last.ensures)

-- ---- what it asked

pub returns-in-Ok-clause-asks : goal.returns-in-Ok-clause-asks
returns-in-Ok-clause-asks g c = λ head ended.
    let whole = subst (IsEndOf head) c.in-Whole.is ended in
    tells_whole head (Ok c.in-Ok.request) _ c.begin_request-begun.result.ended whole.0
    (read_says head _ c.in-Ok.request c.in-Ok.is whole.1)
    (ap Some c.asked_of.ensures)

pub returns-in-Refused-clause-asks : goal.returns-in-Refused-clause-asks
returns-in-Refused-clause-asks g c = λ head ended.
    let whole = subst (IsEndOf head) c.in-Whole.is ended in
    tells_whole head (Err c.in-Refused.fault) _ c.finish-in-Refused.result.ended whole.0
    (refused_says head _ _ c.in-Refused.fault c.in-Err.is c.in-Refused.is whole.1)
    refl
