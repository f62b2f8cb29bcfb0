use Rattle.std.proofs.Common.{◌≡◌, drop, eqb}
use Rattle.std.specs.List.{list_any}
use Rattle.cast_config.proofs.config.Group.lists.Given as goal

abbrev pub invariant-loop-number : goal.invariant-loop-number
invariant-loop-number l = list_any (λ m. eqb m l.n) (drop l.number-index l.number-items) ≡ list_any (λ m. eqb m l.n)
    l.number-items
