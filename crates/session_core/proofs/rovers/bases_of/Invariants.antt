use Rattle.std.proofs.Common.{◌≡◌, ◌++◌, drop}
use Rattle.session_model.specs.Setting.{bases_at}
use Rattle.session_core.proofs.rovers.bases_of.Given as goal

abbrev pub invariant-loop-number : goal.invariant-loop-number
invariant-loop-number l = l.bases.items ++ bases_at l.config (drop l.number-index l.numbers) ≡ bases_at l.config
    l.numbers
