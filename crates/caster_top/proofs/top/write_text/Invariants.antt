-- The text up to `at` was written.
use Rattle.std.proofs.Common.{◌≡◌, ◌≤◌, ◌-◌, length, take}
use Rattle.std.specs.Io.KnownBytes.{Appends}
use Rattle.caster_top.proofs.top.write_text.Given as goal

abbrev pub invariant-loop-at : goal.invariant-loop-at
invariant-loop-at g l = let sink = g.O.Sink in record {
  within : l.at ≤ length l.text;
  written : Appends (sink.taken l.fn.out) (sink.taken l.out) (take l.at l.text);
  unharmed : sink.faults l.out ≡ sink.faults l.fn.out;
}

abbrev pub decreases-loop-at : goal.decreases-loop-at
decreases-loop-at g l = length l.text - l.at
