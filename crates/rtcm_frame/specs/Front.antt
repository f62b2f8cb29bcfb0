-- What stands in front of a stream, and how a cutter's buffer holds what waits.
use Rattle.std.specs.Prelude.{◌≡◌, ℕ, ◌≤◌, false, List, length, take, IsTrue}
use Rattle.rtcm_frame.specs.declared.cutting.Front.{Front}
use Rattle.rtcm_frame.specs.declared.cutting.Front.TheVariants.{Whole, Waits, Junk}
use Rattle.rtcm_frame.specs.Transport.{is_frame}
use Rattle.rtcm_frame.specs.Cut.{begins_with_frame, is_unfinished, IsWaiting}

-- a frame of this many bytes; nothing or an unfinished frame; or a byte of neither
abbrev pub IsFrontOf : List ℕ → Front → Type 0
IsFrontOf bytes (Whole count) = (count ≤ length bytes) × IsTrue (is_frame (take count bytes))
IsFrontOf bytes Waits = IsWaiting bytes
IsFrontOf bytes Junk =
    (1 ≤ length bytes) × (begins_with_frame bytes ≡ false) × (is_unfinished bytes ≡ false)
