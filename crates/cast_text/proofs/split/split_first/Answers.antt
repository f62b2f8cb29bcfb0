use Rattle.std.proofs.Common.{eqb, sym, ◌∙◌}
use Rattle.cast_text.proofs.SplitLemmas.{parts_at, position_none, position_some}
use Rattle.cast_text.proofs.split.split_first.Goals as goal

pub returns-in_err-place-clause-none : goal.returns-in_err-place-clause-none
returns-in_err-place-clause-none c =
    rw c.from_residual.ensures
    (position_none (λ b. eqb b c.args.byte) c.args.text.now (sym c.place_of.ensures ∙ c.in_err-place.was))

pub returns-clause-found : goal.returns-clause-found
returns-clause-found c =
    parts_at c.args.byte c.args.text.now c.in_ok-place.place (sym c.place_of.ensures ∙ c.in_ok-place.was)

pub returns-clause-free : goal.returns-clause-free
returns-clause-free c =
    (position_some (λ b. eqb b c.args.byte) c.args.text.now c.in_ok-place.place
    (sym c.place_of.ensures ∙ c.in_ok-place.was)).none
