-- How a peer takes what it is sent, and what follows of that. Times are milliseconds since the
-- connection began, sizes are bytes.
use Rattle.std.specs.Prelude.{ℕ, ◌+◌, ◌-◌, ◌*◌, ◌/◌, ◌≤◌, ◌||◌, ◌&&◌, ◌==◌, ◌^◌, not, true, false, nat_lt, nat_le, min, max, sum, Bool, if◌then◌else◌, List, ◌++◌, replicate, take, slice_index, slice_set, Option, None, Some, unwrap_or}
use Rattle.send_room.specs.declared.flow.Flow.{Flow}
use Rattle.send_room.specs.declared.haste.Haste.{Haste}
use Rattle.send_room.specs.declared.stuck.Stuck.{Stuck}

-- a connection that begins: nothing was taken yet, and it counts as caught up
abbrev pub new_flow : Flow
new_flow = record {
  taken = replicate 8 0;
  half = 0;
  size = 16384;
  timeout = 90000;
  closed = None;
  caught = 0;
  tried = 0;
  is_idle = false;
}

-- what was taken in each of the last eight half seconds, the latest first, so many half seconds
-- later: nothing in those that went by, and what was taken in those that are still among the eight
abbrev pub later : ℕ → List ℕ → List ℕ
later halves taken = replicate (min halves 8) 0 ++ take (8 - halves) taken

-- what was taken in each of the eight half seconds up to this time, the latest first
abbrev pub lately : ℕ → Flow → List ℕ
lately now flow = later (now / 500 - flow.half) flow.taken

-- so many bytes more were taken in the latest half second; 2^32 - 1 are as good as more
abbrev pub with_more : ℕ → List ℕ → List ℕ
with_more count taken = slice_set taken 0 (min (slice_index taken 0 + count) (2 ^ 32 - 1))

-- so many bytes were taken at this time: where some are taken there is room
abbrev pub with_taken : ℕ → ℕ → Flow → Flow
with_taken now count flow = record flow {
  taken = with_more count (lately now flow);
  half = max flow.half (now / 500);
  closed = None;
  is_idle = false;
}

-- the peer was caught up less than two seconds before this time
abbrev pub is_caught_up : ℕ → Flow → Bool
is_caught_up now flow = nat_lt (now - flow.caught) 2000

-- the least size that the buffer is to have at this time
abbrev pub least_at : ℕ → Flow → ℕ
least_at now flow = if is_caught_up now flow then 16384 else 4096

-- How many bytes were taken in a second up to this time: half of those of the last two seconds for
-- a peer that was just caught up, so that the size follows one that takes more and more, and a
-- quarter of those of the last four.
abbrev pub second_at : ℕ → Flow → ℕ
second_at now flow =
    if is_caught_up now flow then sum (take 4 (lately now flow)) / 2
    else sum (take 8 (lately now flow)) / 4

-- The size that the buffer is to have at this time: what was taken in a second, within 4,096 and
-- 262,144, and at least 16,384 for a peer that was just caught up.
abbrev pub wanted_at : ℕ → Flow → ℕ
wanted_at now flow = max (least_at now flow) (min (second_at now flow) 262144)

-- the one size is a quarter of the other, or more, above it or below it
abbrev pub differs : ℕ → ℕ → Bool
differs size wanted = nat_le (5 * size) (4 * wanted) || nat_le (4 * wanted) (3 * size)

-- the size that is to be set at this time, where it differs by a quarter of the one that is set
abbrev pub size_to_set : ℕ → Flow → Option ℕ
size_to_set now flow =
    if differs flow.size (wanted_at now flow) then Some (wanted_at now flow) else None

-- For how long the system waits until a peer that acknowledges nothing is gone: 90 seconds where it
-- was just caught up, and for ever (0) from the first time on that it is behind. The system counts
-- from when the peer's window first was too small, which may be long past.
abbrev pub timeout_at : ℕ → Flow → ℕ
timeout_at now flow = if nat_lt 0 flow.timeout && is_caught_up now flow then 90000 else 0

-- and that is to be set at this time, where it is not
abbrev pub timeout_to_set : ℕ → Flow → Option ℕ
timeout_to_set now flow =
    if flow.timeout == timeout_at now flow then None else Some (timeout_at now flow)

-- since when there is no room, where a look at this time finds none
abbrev pub closed_since : ℕ → Flow → ℕ
closed_since now flow = unwrap_or flow.closed now

-- this shows that there was no room at any look for 90 seconds
abbrev pub IsStuck : Stuck → Type 0
IsStuck stuck = stuck.since + 90000 ≤ stuck.now

-- whether it is tried at this time if there is room at the least size: four times a second at most
abbrev pub is_try_due : ℕ → Flow → Bool
is_try_due now flow = nat_le 250 (now - flow.tried)

-- whether the system is asked then: not where nothing was taken since a try that found room, for
-- there is as much room as there was
abbrev pub is_asked : ℕ → Flow → Bool
is_asked now flow = is_try_due now flow && not flow.is_idle

-- It was tried at this time, with nothing left to send, where that was due: where there is room at
-- the least size, or nothing was taken since there was, the peer is caught up.
abbrev pub with_try : ℕ → Bool → Flow → Flow
with_try now has_room flow = record flow {
  caught = if is_try_due now flow && (flow.is_idle || has_room) then now else flow.caught;
  tried = if is_try_due now flow then now else flow.tried;
  is_idle = if is_asked now flow then has_room else flow.is_idle;
}

-- a write that does not hurry
abbrev pub unhurried : Haste
unhurried = record { since = None }

-- since when a write hurries that does so at this time, and hurried before or not
abbrev pub hurries_since : ℕ → Haste → ℕ
hurries_since now haste = unwrap_or haste.since now
