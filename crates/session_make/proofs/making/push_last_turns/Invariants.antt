use Rattle.std.proofs.Common.{◌≡◌, ◌++◌, map}
use Rattle.std.specs.List.{range_with_len}
use Rattle.session_script.specs.declared.Event.TheVariants.{Turn}
use Rattle.session_make.proofs.making.push_last_turns.Given as goal

abbrev pub invariant-loop-i : goal.invariant-loop-i
invariant-loop-i l = l.events.items ≡ l.fn.events.items ++ map (λ k. Turn k 16) (range_with_len 2 l.i)
