use Rattle.base_select.specs.Choice.{measures}
use Rattle.base_select.proofs.ChoiceLemmas.{IsBest}
use Rattle.base_select.proofs.choice.nearest.Given as goal

abbrev pub invariant-loop-place : goal.invariant-loop-place
invariant-loop-place l = IsBest (measures l.rover l.bases) l.place l.best
