use Rattle.std.proofs.Common.{◌-◌, length}
use Rattle.type_filter.specs.Permitted.{permits}
use Rattle.mount_ring.proofs.TakingLemmas.{Takes}
use Rattle.mount_ring.proofs.reading.take_frames.Given as goal

abbrev pub invariant-loop-left : goal.invariant-loop-left
invariant-loop-left l = Takes (permits l.filter) l.frames.items l.from l.budget l.index l.left l.out

abbrev pub decreases-loop-left : goal.decreases-loop-left
decreases-loop-left l = length l.frames.items - l.index
