-- What a caller called at the mountpoints, and the segments that the answers give.
use Rattle.std.specs.Prelude.{◌≡◌, ℕ, ◌==◌, ⊤, Bool, true, false, if◌then◌else◌, List, [], ◌∷◌, fold}
use Rattle.std.specs.List.{filter, flat_map}
use Rattle.turn_log.specs.History.{History}
use Rattle.turn_log.specs.Heard.{told}
use Rattle.mount_ring.specs.declared.call.RingCall.{RingCall}
use Rattle.mount_ring.specs.declared.call.RingCall.TheVariants.{Read}
use Rattle.mount_ring.specs.declared.call.RingAnswer.{RingAnswer}
use Rattle.rover_cursor.specs.declared.segment.Segment.{Segment}
use Rattle.rover_cursor.specs.Segments.{after_answer}
use Rattle.session_calls.specs.Rings.{history_at, answer_at}
use Rattle.cast_config.specs.declared.config.Config.{Config}
use Rattle.session_model.specs.Setting.{shapes}

-- a call with the number of its mountpoint and its answer
pub record Call : Type 0 where
  pub mount : ℕ
  pub asked : RingCall
  pub answer : RingAnswer

abbrev pub call : ℕ → RingCall → RingAnswer → Call
call mount asked answer = record { mount = mount; asked = asked; answer = answer }

-- those of these calls that were made at one mountpoint
abbrev pub at_one : ℕ → List Call → List (RingCall × RingAnswer)
at_one mount calls =
    flat_map (λ (one : Call). if one.mount == mount then (one.asked, one.answer) ∷ [] else []) calls

-- at every mountpoint these are, in order, all calls that its history has of this caller, each with
-- the answer at its own point of that history: the answer is computed from the entries before it
abbrev pub AreAllCalls : Config → List (History RingCall) → ℕ → List Call → Type 0
AreAllCalls c histories me calls =
    (mount : ℕ)
    → told (answer_at (shapes c) mount) me [] (history_at histories mount) ≡ at_one mount calls

-- the calls that are no reads. How many Reads a caller makes, and when, is not fixed: its frames
-- are counted up to the last one
abbrev pub is_no_read : RingCall → Bool
is_no_read (Read cursor budget) = false
is_no_read _ = true

abbrev pub without_reads : List Call → List Call
without_reads calls = filter (λ (one : Call). is_no_read one.asked) calls

-- the segments that the answers give, the newest first (a receipt has the oldest first): each Join
-- begins one at the end of what was published, and each Read goes on with the newest
abbrev pub after_one : List Segment → Call → List Segment
after_one segments one = after_answer one.mount segments one.answer

abbrev pub segments_of : List Call → List Segment
segments_of calls = fold after_one [] calls

-- each Read is one at the newest segment's mountpoint, from where that segment stands
abbrev pub IsReadOn : RingCall → ℕ → List Segment → Type 0
IsReadOn (Read cursor budget) mount [] = ⊥
IsReadOn (Read cursor budget) mount (newest ∷ older) =
    (mount ≡ newest.mount) × (cursor ≡ newest.cursor)
IsReadOn _ mount segments = ⊤

abbrev pub ReadOn : List Segment → List Call → Type 0
ReadOn segments [] = ⊤
ReadOn segments (one ∷ later) =
    IsReadOn one.asked one.mount segments × ReadOn (after_one segments one) later
