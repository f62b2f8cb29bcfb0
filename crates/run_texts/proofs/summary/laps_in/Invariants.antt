-- the laps of the connections so far
use Rattle.std.proofs.Common.{◌≡◌, take}
use Rattle.std.specs.List.{sum_by}
use Rattle.run_texts.specs.Texts.{laps_of}
use Rattle.run_texts.proofs.summary.laps_in.Given as goal

abbrev pub invariant-loop-told : goal.invariant-loop-told
invariant-loop-told l = l.laps ≡ sum_by laps_of (take l.told-index l.connections)
