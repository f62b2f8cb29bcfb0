use Rattle.std.proofs.Common.{◌≡◌, drop}
use Rattle.gga_read.specs.Sentence.{exclusive_or, exclusive_or_after}
use Rattle.gga_read.proofs.sentence.exclusive_or.Given as goal

abbrev pub invariant-loop-byte : goal.invariant-loop-byte
invariant-loop-byte l = exclusive_or_after l.sum (drop l.byte-index l.bytes) ≡ exclusive_or l.bytes
