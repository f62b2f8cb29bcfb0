use Rattle.std.proofs.Common.{◌≡◌}
use Rattle.gga_read.specs.Sentence.{field}
use Rattle.gga_read.proofs.sentence.field.Given as goal

abbrev pub invariant-loop-left : goal.invariant-loop-left
invariant-loop-left l = field l.left l.rest ≡ field l.number l.text

abbrev pub decreases-loop-left : goal.decreases-loop-left
decreases-loop-left l = l.left
