use Rattle.std.proofs.Common.{◌≡◌, ◌++◌, ◌∷◌, map}
use Rattle.std.specs.Prelude.{codes}
use Rattle.std.specs.List.{range_with_len}
use Rattle.session_script.specs.declared.Event.TheVariants.{Source, Rover}
use Rattle.session_make.proofs.making.push_opening.Given as goal

abbrev pub invariant-loop-i : goal.invariant-loop-i
invariant-loop-i l =
    l.events.items ≡ l.fn.events.items ++ Source 1 (codes "A") ∷ map (λ k. Rover k (codes "A")) (range_with_len 2 l.i)
