use Rattle.std.proofs.Common.{◌∙◌, ℕ, [], length, sym, ap, subst, arith, Result, None, false}
use Rattle.std.proofs.lemmas.List.{length-map}
use Rattle.access_groups.specs.declared.admission.SourceDenial.{SourceDenial}
use Rattle.session_model.specs.Judged.{Judged, source_judged}
use Rattle.session_core.specs.Places.{alone_in, seen_in, worn_in}
use Rattle.session_core.specs.Begun.{BeginsFor}
use Rattle.session_core.proofs.BegunLemmas.{denied_source_cause}
use Rattle.session_core.proofs.HeldLemmas.{length_shapes}
use Rattle.session_core.proofs.AdmittedLemmas.{source_is}
use Rattle.session_core.proofs.judging.judge_source.Goals as goal

pub begin_source-requires-clause-within : goal.begin_source-requires-clause-within
begin_source-requires-clause-within g c =
    omega (
      arith,
      source_is c.args.setup.now.config.now c.args.mount.now c.args.password.now c.in-Ok.mount
          (sym c.admit_source.ensures ∙ c.in-Ok.is),
      length-map c.args.places.now.rings.items g.T.Turns.shape,
      ap length c.requires.shapes,
      length_shapes c.args.setup.now.config.now,
    )

pub returns-in-Ok-clause-begins : goal.returns-in-Ok-clause-begins
returns-in-Ok-clause-begins g c =
    subst (λ (answer : Result ℕ SourceDenial). BeginsFor c.args.setup.now.config.now (alone_in g.T.Turns g.B.Turns c.args.places.now)
    (seen_in g.T.Turns g.B.Turns c.args.places.now) (seen_in g.T.Turns g.B.Turns c.begin_source.new.places) c.args.setup.now.me
    (source_judged c.args.version c.args.chunked [] answer) c.begin_source.result.stage c.begin_source.result.ended
    c.args.out.now.items c.begin_source.new.out.items) (sym (sym c.admit_source.ensures ∙ c.in-Ok.is))
    (c.begin_source.ensures.begins c.args.setup.now.config.now c.requires.shapes)

pub returns-in-Err-clause-begins : goal.returns-in-Err-clause-begins
returns-in-Err-clause-begins g c =
    let config = c.args.setup.now.config.now in
    let alone = alone_in g.T.Turns g.B.Turns c.args.places.now in
    let seen = seen_in g.T.Turns g.B.Turns c.args.places.now in
    subst (λ (j : Judged). BeginsFor config alone seen seen c.args.setup.now.me j c.finish.result.stage
    c.finish.result.ended c.args.out.now.items c.finish.new.out.items)
    (c.denied_source.ensures c.args.version c.args.chunked ∙ ap (source_judged c.args.version c.args.chunked [])
    (sym (sym c.admit_source.ensures ∙ c.in-Err.is)))
    (c.finish.ensures.begins config alone seen c.args.setup.now.me c.requires.ready.table_is)

pub returns-in-Err-clause-cause : goal.returns-in-Err-clause-cause
returns-in-Err-clause-cause g c =
    let worn = worn_in g.T.Turns g.B.Turns c.args.places.now in
    c.finish.ensures.cause worn (denied_source_cause worn c.in-Err.denial _ c.denied_source.result.1
    (c.denied_source.ensures None false))
