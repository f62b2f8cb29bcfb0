-- There was a caster over the configuration that was read, or there was none.
use Rattle.std.proofs.Common.{inl, inr, refl}
use Rattle.cast_io.specs.Causes.{Rose}
use Rattle.caster_top.specs.Answers.{exit_of}
use Rattle.caster_top.specs.Given.{FileCame}
use Rattle.caster_top.proofs.CastingLemmas.{refused_end}
use Rattle.caster_top.proofs.keeping.keep_serving.Goals as goal

pub returns-in-Ok-clause-keeping : goal.returns-in-Ok-clause-keeping
returns-in-Ok-clause-keeping g c =
    let came = c.keep_over-status.ensures.kept in
    inr (record {
      c = c.in-Ok.config;
      config_is = c.in-Ok.ensures.config;
      came_to = came.0;
      did = came.1;
      ends = came.2;
    })

pub returns-in-Err-clause-keeping : goal.returns-in-Err-clause-keeping
returns-in-Err-clause-keeping g c =
    let source = g.S.Source in
    inl (record {
      alone = refl;
      end = exit_of c.in-Err.answer;
      refused = refused_end
          (FileCame (source.store c.args.store.now).files (source.log c.args.store.now)
          (source.log c.config_at.new.store)) c.args.words.config.now
          (Rose (source.faults c.args.store.now) (source.faults c.config_at.new.store)) c.in-Err.answer
          c.in-Err.ensures.refused;
      written = c.end_with.ensures.writes;
    })
