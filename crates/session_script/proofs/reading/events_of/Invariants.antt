use Rattle.std.proofs.Common.{◌≡◌, ◌+◌, ◌≤◌, length}
use Rattle.std.specs.Str.Lines.{lines}
use Rattle.session_script.specs.Numbers.{no_numbers}
use Rattle.session_script.specs.Script.{events_of_lines}
use Rattle.session_script.specs.Reading.{read_on}
use Rattle.session_script.proofs.reading.events_of.Given as goal

abbrev pub invariant-loop-line : goal.invariant-loop-line
invariant-loop-line l = record {
  within : l.reader.line + length l.rest ≤ 8388609;
  so_far : read_on l.reader (lines l.rest) ≡ events_of_lines l.fn.kind 1 no_numbers (lines l.bytes);
}

abbrev pub decreases-loop-line : goal.decreases-loop-line
decreases-loop-line l = length l.rest
