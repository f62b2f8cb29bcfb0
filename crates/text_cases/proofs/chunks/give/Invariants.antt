use Rattle.std.proofs.Common.{◌+◌, ◌≤◌}
use Rattle.text_cases.proofs.chunks.give.Given as goal

abbrev pub invariant-loop-byte : goal.invariant-loop-byte
invariant-loop-byte l = l.reader.taken ≤ l.fn.reader.taken + l.byte-index
