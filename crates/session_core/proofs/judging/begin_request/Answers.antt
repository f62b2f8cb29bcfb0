use Rattle.std.proofs.Common.{ℕ, List, [], sym, subst, Some, Ok}
use Rattle.ntrip_head.specs.declared.request.Request.{Request}
use Rattle.access_groups.specs.Admission.{source_admission}
use Rattle.session_model.specs.Judged.{source_judged, request_judged}
use Rattle.session_core.specs.Places.{alone_in, seen_in, worn_in}
use Rattle.session_core.specs.Begun.{BeginsFor}
use Rattle.session_core.proofs.judging.begin_request.Goals as goal

pub returns-in-Source-clause-begins : goal.returns-in-Source-clause-begins
returns-in-Source-clause-begins g c =
    let config = c.args.setup.now.config.now in
    let alone = alone_in g.T.Turns g.B.Turns c.args.places.now in
    let old = seen_in g.T.Turns g.B.Turns c.args.places.now in
    let now = seen_in g.T.Turns g.B.Turns c.judge_source.new.places in
    subst (λ (r : Request). BeginsFor config alone old now c.args.setup.now.me (request_judged config [] (Ok r))
    c.judge_source.result.stage c.judge_source.result.ended c.args.out.now.items c.judge_source.new.out.items)
    (sym c.in-Source.is)
    (subst (λ (p : List ℕ). BeginsFor config alone old now c.args.setup.now.me
    (source_judged (Some c.in-Source.version) c.in-Source.chunked [] (source_admission config c.in-Source.mount p))
    c.judge_source.result.stage c.judge_source.result.ended c.args.out.now.items c.judge_source.new.out.items)
    c.bytes.ensures.value c.judge_source.ensures.begins)

pub returns-in-Table-clause-begins : goal.returns-in-Table-clause-begins
returns-in-Table-clause-begins g c =
    let config = c.args.setup.now.config.now in
    let alone = alone_in g.T.Turns g.B.Turns c.args.places.now in
    let seen = seen_in g.T.Turns g.B.Turns c.args.places.now in
    subst (λ (r : Request). BeginsFor config alone seen seen c.args.setup.now.me (request_judged config [] (Ok r))
    c.finish.result.stage c.finish.result.ended c.args.out.now.items c.finish.new.out.items) (sym c.in-Table.is)
    (c.finish.ensures.begins config alone seen c.args.setup.now.me c.requires.ready.table_is)

pub returns-in-Table-clause-cause : goal.returns-in-Table-clause-cause
returns-in-Table-clause-cause g c = c.finish.ensures.cause (worn_in g.T.Turns g.B.Turns c.args.places.now) tt
