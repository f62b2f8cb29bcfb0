use Rattle.std.proofs.Common.{◌≡◌, ◌++◌, map, take, drop}
use Rattle.last_frames.specs.Latest.{noted}
use Rattle.last_frames.proofs.latest.note_in.Given as goal

abbrev pub invariant-loop-latest : goal.invariant-loop-latest
invariant-loop-latest l =
    l.latest-items
    ≡ map (noted l.frame) (take l.latest-index l.fn.kept.items) ++ drop l.latest-index l.fn.kept.items
