-- What contracts see of the source and the sink in memory.
use Rattle.std.specs.Prelude.{ℕ, ◌≡◌, ◌==◌, ◌||◌, ◌+◌, ◌≤◌, ◌⊎◌, ◌↔◌, min, List, [], ◌++◌, length, take, Bool, false, Option, None, Some, is_some, if◌then◌else◌, option_map, Result, IsTrue, IsErr, IfOk, OnOk, OnErr}
use Rattle.std.specs.List.{list_any, find}
use Rattle.cast_io.specs.declared.fault.Failed.{Failed}
use Rattle.cast_io.specs.Causes.{next_count}

-- a source in memory: the bytes left to read, the numbers of the calls that are to fail,
-- how many calls were made, and how many of them failed
pub record SourceState : Type 0 where
  pub left : List ℕ
  pub fails : List ℕ
  pub calls : ℕ
  pub faults : ℕ

-- a sink in memory: the bytes written so far, the numbers of the calls that are to fail,
-- for each write that is to be torn its number and how many bytes it takes, how many calls were
-- made, how many faults there were, and for how many bytes it has room
pub record SinkState : Type 0 where
  pub bytes : List ℕ
  pub fails : List ℕ
  pub torn : List (ℕ × ℕ)
  pub calls : ℕ
  pub faults : ℕ
  pub room : ℕ

-- the call after this many calls is one that is to fail; calls are numbered from 1
abbrev pub fails_next : ℕ → List ℕ → Bool
fails_next calls fails = list_any (λ n. n == next_count calls) fails

-- What a read of a source in memory comes to, into a buffer of this size: it fails where it is to
-- fail, and else gives what is left and fits. One more call was counted.
pub record IsFakeRead (old new : SourceState) (size : ℕ) (result : Result ℕ Failed) : Type 0 where
  pub exact : IsErr result ↔ IsTrue (fails_next old.calls old.fails)
  pub full : IfOk result (λ n. n ≡ min (length old.left) size)
  pub fails : new.fails ≡ old.fails
  pub calls : new.calls ≡ next_count old.calls
  pub unharmed : OnOk result (new.faults ≡ old.faults)

-- how many bytes the write of this number takes before it fails; of two pairs the first counts
abbrev pub torn_at : ℕ → List (ℕ × ℕ) → Option ℕ
torn_at number torn = option_map (λ pair. pair.1) (find (λ pair. pair.0 == number) torn)

-- what a write takes of the piece that is torn after so many bytes; all of it where it is not torn
abbrev pub front_at : Option ℕ → List ℕ → List ℕ
front_at None piece = piece
front_at (Some n) piece = take n piece

-- the next write is to fail, after so many calls and, among them, so many writes
abbrev pub write_fails : ℕ → ℕ → List ℕ → List (ℕ × ℕ) → Bool
write_fails calls writes fails torn = fails_next calls fails
    || is_some (torn_at (next_count writes) torn)

-- what the next write takes of the piece, with memory at hand
abbrev pub write_takes : ℕ → ℕ → List ℕ → List (ℕ × ℕ) → List ℕ → List ℕ
write_takes calls writes fails torn piece =
    if fails_next calls fails then [] else front_at (torn_at (next_count writes) torn) piece

-- What a write comes to that is to fail, or is not, and is to take this of its piece, where there
-- is room for so many bytes: these bytes were taken before, and those stand now.
pub record IsFakeWrite {X : Type 0} (fails : Bool) (torn : List (ℕ × ℕ)) (takes piece : List ℕ)
    (room : ℕ) (old new : List ℕ) (result : Result X Failed) : Type 0 where
  pub told : IsTrue fails → IsErr result
  -- with room for the whole piece it fails exactly where it is to
  pub exact : length old + length piece ≤ room → (IsErr result ↔ IsTrue fails)
  pub takes_it : length old + length piece ≤ room → new ≡ old ++ takes
  -- a failed write takes what is listed for it, or nothing: where none is listed, where it is not
  -- to fail, and where there was no memory
  pub listed : OnErr result ((new ≡ old) ⊎ (new ≡ old ++ takes))
  pub unlisted : torn ≡ [] → OnErr result (new ≡ old)
  pub untold : fails ≡ false → OnErr result (new ≡ old)

-- the next write of the sink is to fail
abbrev pub sink_fails : SinkState → Bool
sink_fails sink = write_fails sink.calls sink.calls sink.fails sink.torn

-- what the sink takes of the next piece, with memory at hand
abbrev pub sink_takes : SinkState → List ℕ → List ℕ
sink_takes sink = write_takes sink.calls sink.calls sink.fails sink.torn

-- a sink that was not called yet
pub record IsEmptySink (sink : SinkState) (fails : List ℕ) (torn : List (ℕ × ℕ)) : Type 0 where
  pub bytes : sink.bytes ≡ []
  pub fails_are : sink.fails ≡ fails
  pub torn_are : sink.torn ≡ torn
  pub calls : sink.calls ≡ 0
  pub faults : sink.faults ≡ 0
