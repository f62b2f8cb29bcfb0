-- How a cutter holds what waits: in a buffer of twice the longest frame, with running checksums
-- over a part of it.
use Rattle.std.specs.Prelude.{ℕ, ◌+◌, ◌*◌, ◌≤◌}
use Rattle.rtcm_frame.specs.declared.stream.Cutter.TheInside.{Inside}
use Rattle.rtcm_frame.specs.Transport.{longest}
use Rattle.rtcm_frame.specs.Sums.{Chained, AreSums}

-- the bytes that a cutter can hold
abbrev pub room : ℕ
room = 2 * longest

-- what waits stands within the buffer, and the sums reach from its begin to no further than its end
pub record IsHeld (c : Inside) : Type 0 where
  pub within : c.start + c.len ≤ room
  pub reached : c.summed ≤ c.start + c.len
  pub fits : AreSums c.sums
  pub chained : Chained c.buffer c.sums c.start c.summed
