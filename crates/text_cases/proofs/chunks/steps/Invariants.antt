use Rattle.std.proofs.Common.{◌≤◌}
use Rattle.text_cases.proofs.chunks.steps.Given as goal

abbrev pub invariant-loop-byte : goal.invariant-loop-byte
invariant-loop-byte l = l.reader.taken ≤ l.byte-index
