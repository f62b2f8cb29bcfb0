-- For how long links may be quiet.
use Rattle.std.specs.Prelude.{◌≡◌, ℕ, ◌*◌, ◌==◌, ◌≤◌, Bool, true, false, Option, None, Some, option_map, if◌then◌else◌}
use Rattle.std.specs.Duration.{as_nanos}
use Rattle.cast_io.specs.declared.link.Got.{Got}
use Rattle.cast_io.specs.declared.link.Got.TheVariants as got
use Rattle.caster_net.specs.declared.quiet.Silence.{Silence}

-- how long a link may be quiet, in nanoseconds; whether bytes were written to it; and whether the
-- last read gave nothing, so long after it last gave or took a byte
pub record QuietState : Type 0 where
  pub limit : ℕ
  pub is_written : Bool
  pub is_found : Bool

-- this shows that a link which may be quiet for so many nanoseconds was so for as long, or longer
abbrev pub IsTooLong : ℕ → Silence → Type 0
IsTooLong limit silence = (as_nanos silence.limit ≡ limit) × (limit ≤ as_nanos silence.since)

-- that of a new link, which may be quiet for so many seconds
abbrev pub new_quiet : ℕ → QuietState
new_quiet seconds = record {
  limit = seconds * 1_000_000_000;
  is_written = false;
  is_found = false;
}

-- the link gave bytes
abbrev pub given : QuietState → QuietState
given quiet = record quiet { is_found = false }

-- the link took bytes
abbrev pub taken : QuietState → QuietState
taken quiet = record quiet { is_written = true; is_found = false }

-- all but whether a read found it quiet
abbrev pub but_found : QuietState → ℕ × Bool
but_found quiet = (quiet.limit, quiet.is_written)

-- that of a new link of a gate with this QUIET: none at 0, as it may be quiet for ever
abbrev pub quiet_for : ℕ → Option QuietState
quiet_for seconds = if seconds == 0 then None else Some (new_quiet seconds)

-- what a link of a gate heeds: for how long it may be quiet, or none where that is for ever; and
-- which stop, by the name of the lock that is written once it is asked for
pub record KeepState : Type 0 where
  pub quiet : Option QuietState
  pub stop : ℕ

-- that of a link which begins now, at a gate of this QUIET with this stop
abbrev pub new_keep : ℕ → ℕ → KeepState
new_keep seconds stop = record { quiet = quiet_for seconds; stop = stop }

-- the link gave bytes
abbrev pub keep_given : KeepState → KeepState
keep_given keep = record keep { quiet = option_map given keep.quiet }

-- the link took bytes
abbrev pub keep_taken : KeepState → KeepState
keep_taken keep = record keep { quiet = option_map taken keep.quiet }

-- all but whether a read found it quiet
abbrev pub keep_but_found : KeepState → Option (ℕ × Bool) × ℕ
keep_but_found keep = (option_map but_found keep.quiet, keep.stop)

-- What a link heeds behind a read: bytes that it gave undo its silence. A read that found nothing
-- notes alone whether it is quiet, and any other notes nothing.
abbrev pub HasNoted : Got → Option KeepState → Option KeepState → Type 0
HasNoted (got.Bytes n) old new = new ≡ option_map keep_given old
HasNoted got.Idle old new = option_map keep_but_found new ≡ option_map keep_but_found old
HasNoted got.End old new = new ≡ old
HasNoted got.Failed old new = new ≡ old
