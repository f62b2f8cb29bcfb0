use Rattle.std.proofs.Common.{◌≡◌, Bool, true, false, not, ap, sym, ◌∙◌, refl}
use Rattle.std.specs.Option.{is_some, is_none}
use Rattle.cast_text.proofs.NameLemmas.{none_is_name}
use Rattle.cast_text.proofs.name.is_name.Goals as goal

turned : (a b : Bool) → a ≡ not b → not a ≡ b
turned a true e = rw e refl
turned a false e = rw e refl

pub returns : goal.returns
returns c =
    sym (turned (is_some c.fault_of.result) c.is_none.result c.is_none.ensures)
    ∙ ap is_none c.fault_of.ensures ∙ none_is_name c.args.text.now
