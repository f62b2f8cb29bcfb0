-- What a rover's steps made of it: its present base and its segments, the newest first.
use Rattle.std.specs.Prelude.{◌≢◌, ℕ, ◌-◌, ◌^◌, ◌≤◌, min, ⊤, Bool, true, false, List, [], ◌∷◌, map, fold, Contains, Option, None, Some, option_to_list}
use Rattle.std.specs.List.{filter, flat_map, sum_by}
use Rattle.mount_ring.specs.declared.call.RingCall.{RingCall}
use Rattle.mount_ring.specs.declared.call.RingCall.TheVariants.{Claim, Release, Publish, Join, Look, Read}
use Rattle.rover_cursor.specs.declared.segment.Segment.{Segment}
use Rattle.rover_cursor.specs.declared.fault.SegFault.{SegFault}
use Rattle.rover_cursor.specs.declared.fault.SegFault.TheVariants.{Worn, Memory}
use Rattle.rover_cursor.specs.Segments.{after_answer}
use Rattle.session_calls.specs.Steps.{Ask, to_ring, to_book, Step, at_ring, at_book, ask_of}
use Rattle.session_calls.specs.Plans.{Plan, IsMade, IsBegun}

-- the mountpoint of a Join, and else what was before
abbrev pub joined_by : Option ℕ → ℕ → RingCall → Option ℕ
joined_by present mount Claim = present
joined_by present mount (Release claim) = present
joined_by present mount (Publish claim frame) = present
joined_by present mount (Join filter) = Some mount
joined_by present mount Look = present
joined_by present mount (Read cursor budget) = present

abbrev pub after_ask : Option ℕ → Ask → Option ℕ
after_ask present (to_ring mount call) = joined_by present mount call
after_ask present (to_book call) = present

-- the mountpoint that was joined last
abbrev pub base_after : Option ℕ → List Step → Option ℕ
base_after present [] = present
base_after present (step ∷ steps) = base_after (after_ask present (ask_of step)) steps

-- the mountpoint that a step joins, if it is a Join
abbrev pub joined_in : Step → List ℕ
joined_in step = option_to_list (after_ask None (ask_of step))

-- the mountpoints that these steps join, in order
abbrev pub bases_joined : List Step → List ℕ
bases_joined steps = flat_map joined_in steps

-- each of these mountpoints is another than the one before it, the first than the present base
abbrev pub Changes : Option ℕ → List ℕ → Type 0
Changes present [] = ⊤
Changes present (mount ∷ later) = (present ≢ Some mount) × Changes (Some mount) later

-- the segments after one more step, the newest first
abbrev pub after_step : List Segment → Step → List Segment
after_step segments (at_ring mount call answer) = after_answer mount segments answer
after_step segments (at_book call answer) = segments

abbrev pub segments_after : List Segment → List Step → List Segment
segments_after segments steps = fold after_step segments steps

-- the mountpoints of these segments
abbrev pub mounts_of : List Segment → List ℕ
mounts_of segments = map (λ (segment : Segment). segment.mount) segments

-- the mountpoint of the newest segment
abbrev pub present_base : List Segment → Option ℕ
present_base [] = None
present_base (segment ∷ older) = Some segment.mount

-- the frames sent in all segments, with the greatest number of 64 bits in place of a greater sum
abbrev pub sent_in : List Segment → ℕ
sent_in segments = min (sum_by (λ (segment : Segment). segment.sent) segments) (2 ^ 64 - 1)

-- and the frames counted as overrun
abbrev pub overrun_in : List Segment → ℕ
overrun_in segments = min (sum_by (λ (segment : Segment). segment.overrun) segments) (2 ^ 64 - 1)

-- whether a call is owed for bytes: a read is not, it is the answer to a turn
abbrev pub is_call_owed : RingCall → Bool
is_call_owed Claim = true
is_call_owed (Release claim) = true
is_call_owed (Publish claim frame) = true
is_call_owed (Join filter) = true
is_call_owed Look = true
is_call_owed (Read cursor budget) = false

abbrev pub is_owed : Step → Bool
is_owed (at_ring mount call answer) = is_call_owed call
is_owed (at_book call answer) = true

-- the steps without the reads
abbrev pub owed_among : List Step → List Step
owed_among steps = filter is_owed steps

-- where nothing was refused the whole plan was made, and at a refusal the first of it
abbrev pub IsMadeUntil : Option SegFault → Plan → List Step → Type 0
IsMadeUntil None plan steps = IsMade plan steps
IsMadeUntil (Some fault) plan steps = IsBegun plan steps

-- Worn tells by how many turns one of the places is worn, by all these numbers; want of memory may
-- come at any time
abbrev pub IsRefusedBy : List ℕ → SegFault → Type 0
IsRefusedBy worn (Worn turns) = Contains worn turns × (2 ^ 62 ≤ turns)
IsRefusedBy worn Memory = ⊤
