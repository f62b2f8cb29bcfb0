use Rattle.std.proofs.Common.{List, ℕ, ◌∷◌, ap, ◌∙◌}
use Rattle.gga_read.specs.Sentence.{fields}
use Rattle.gga_read.proofs.FieldLemmas.{fields_alone, fields_front, first_front}
use Rattle.gga_read.proofs.sentence.later_fields.Goals as goal

pub returns-in-None-clause-none : goal.returns-in-None-clause-none
returns-in-None-clause-none c = fields_alone c.args.text.now c.in-None.ensures.none

pub returns-in-Some-clause-some : goal.returns-in-Some-clause-some
returns-in-Some-clause-some c =
    fields_front c.args.text.now _ _ c.in-Some.ensures.found c.in-Some.ensures.free
    ∙ ap (λ (x : List ℕ). x ∷ fields c.in-Some.rest.now)
    (first_front c.args.text.now _ _ c.in-Some.ensures.found c.in-Some.ensures.free)
