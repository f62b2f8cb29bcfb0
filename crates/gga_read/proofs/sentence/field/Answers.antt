use Rattle.std.proofs.Common.{◌≡◌, ◌∙◌, ℕ, ap, sym, arith}
use Rattle.gga_read.specs.Sentence.{field}
use Rattle.gga_read.proofs.FieldLemmas.{field_later, field_missing}
use Rattle.gga_read.proofs.sentence.field.Goals as goal

pub loop-left-preserved : goal.loop-left-preserved
loop-left-preserved c =
    sym (field_later c.loop-left.rest.now c.in-Some.later.now c.loop-left.left _
    (omega arith) c.in-Some.ensures.some) ∙ c.loop-left.invariant

pub returns-in-None : goal.returns-in-None
returns-in-None c =
    field_missing c.loop-left.rest.now c.loop-left.left c.loop-left-test.true c.in-None.ensures.none
    ∙ c.loop-left.invariant

pub returns : goal.returns
returns c =
    let none_left : 0 ≡ c.loop-left.left = omega arith in
    c.first_field.ensures ∙ ap (λ (k : ℕ). field k c.loop-left.rest.now) none_left ∙ c.loop-left.invariant
