use Rattle.std.proofs.Common.{◌≡◌, ℕ, ◌-◌, ◌≤◌, get_or, max}
use Rattle.rtcm_frame.specs.Sums.{Chained, AreSums}
use Rattle.rtcm_frame.proofs.sums.reach.Given as goal

abbrev pub invariant-loop-at : goal.invariant-loop-at
invariant-loop-at l = record {
  grown : l.fn.summed ≤ l.at;
  within : l.at ≤ max l.fn.summed l.end;
  held : l.crc ≡ get_or l.sums l.at 0;
  fits : AreSums l.sums;
  chained : (start : ℕ) → start ≤ l.fn.summed → Chained l.buffer l.fn.sums start l.fn.summed
      → Chained l.buffer l.sums start l.at;
}

abbrev pub decreases-loop-at : goal.decreases-loop-at
decreases-loop-at l = l.end - l.at
