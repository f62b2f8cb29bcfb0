-- What came of a file is all of it, or a first part of one that is too long.
use Rattle.std.proofs.Common.{[], ◌∷◌, ◌∙◌, ap, arith}
use Rattle.cast_io.proofs.LogLemmas.{goes_both}
use Rattle.cast_io.specs.Told.{StoreTold}
use Rattle.caster_top.proofs.GivenLemmas.{file_long, file_whole}
use Rattle.caster_top.proofs.config_answers.read_file.Goals as goal

pub returns-clause-whole : goal.returns-clause-whole
returns-clause-whole g c =
    file_whole (λ v. v.items) c.read_all.result c.args.path.now _ _ _ _ _ _ _ c.in-Ok.ensures.opened.ok
    c.in-Ok.ensures.logged c.read_all.ensures.whole

pub returns-clause-long : goal.returns-clause-long
returns-clause-long g c is =
    file_long c.args.path.now _ _ _ _ _ _ c.in-Ok.ensures.opened.ok c.in-Ok.ensures.logged
    (rw is at c.read_all.ensures.lost)

pub returns-clause-on : goal.returns-clause-on
returns-clause-on g c = goes_both _ _ _ (_ ∷ [], c.in-Ok.ensures.logged) c.read_all.ensures.on

pub returns-in_default-clause-kept : goal.returns-in_default-clause-kept
returns-in_default-clause-kept g c = record {
  files = c.in_default.ensures.opened.files;
  few = omega arith;
  faults = omega arith;
}

pub returns-clause-kept : goal.returns-clause-kept
returns-clause-kept g c = record {
  files = ap (λ (told : StoreTold). told.files) c.read_all.ensures.kept ∙ c.in-Ok.ensures.opened.files;
  few = omega arith;
  faults = omega arith;
}
