-- A newline at the end.
use Rattle.std.proofs.Common.{◌≡◌, List, ℕ, true, take, sym, subst, arith}
use Rattle.std.proofs.lemmas.List.{take_more_set}
use Rattle.caster_press.specs.Texts.{is_line, newline}
use Rattle.caster_press.proofs.TextLemmas.{is_line-finish}
use Rattle.caster_press.proofs.draft.Draft.finish.Goals as goal

pub invariant_of-result-clause-whole : goal.invariant_of-result-clause-whole
invariant_of-result-clause-whole c =
    subst (λ (l : List ℕ). is_line l ≡ true) (sym (take_more_set c.self.inside.bytes c.self.inside.len newline (omega arith)))
    (is_line-finish (take c.self.inside.len c.self.inside.bytes) c.self.invariant.1)
