use Rattle.std.proofs.Common.{refl}
use Rattle.rtcm_frame.proofs.HeldLemmas.{held_none}
use Rattle.rtcm_frame.proofs.stream.Cutter.new.Goals as goal

pub invariant_of-result : goal.invariant_of-result
invariant_of-result c = held_none _ 2059 refl refl refl refl
