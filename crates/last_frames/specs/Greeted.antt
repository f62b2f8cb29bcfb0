-- Which greeting stands at a place, by the history.
use Rattle.std.specs.Prelude.{ℕ, List, [], ◌∷◌, ◌++◌, take, drop, Option, None, Some}
use Rattle.turn_log.specs.History.{History}
use Rattle.mount_ring.specs.declared.call.RingCall.{RingCall}
use Rattle.mount_ring.specs.declared.call.RingCall.TheVariants.{Claim, Release, Publish, Join, Look, Read}
use Rattle.mount_ring.specs.History.{Shape, State, state_of, permits_at}
use Rattle.last_frames.specs.Last.{last_permitted}

-- a greeting, if somebody joined
abbrev pub Greeting : Type 0
Greeting = Option (List (List ℕ))

-- the greeting at a place after a call, where its hall was new before the call and has this
-- greeting now: that of the hall where somebody joined, else the one that there was
abbrev pub greeting_from : RingCall → List (List ℕ) → Greeting → Greeting
greeting_from Claim hall before = before
greeting_from (Release claim) hall before = before
greeting_from (Publish claim frame) hall before = before
greeting_from (Join filter) hall before = Some hall
greeting_from Look hall before = before
greeting_from (Read cursor budget) hall before = before

-- the frames in the room of a caller after its call, where these are in the hall now: those of a
-- read, else the ones that there were
abbrev pub read_from : RingCall → List (List ℕ) → List (List ℕ) → List (List ℕ)
read_from Claim hall room = room
read_from (Release claim) hall room = room
read_from (Publish claim frame) hall room = room
read_from (Join filter) hall room = room
read_from Look hall room = room
read_from (Read cursor budget) hall room = hall

-- the greeting after a call: one who joins is greeted by the last permitted ones of all frames that
-- were published before, and other calls change nothing of it
abbrev pub greeted_by : Shape → State → RingCall → Greeting → Greeting
greeted_by shape state Claim greeting = greeting
greeted_by shape state (Release claim) greeting = greeting
greeted_by shape state (Publish claim frame) greeting = greeting
greeted_by shape state (Join filter) greeting =
    Some (last_permitted (permits_at shape filter) state.published)
greeted_by shape state Look greeting = greeting
greeted_by shape state (Read cursor budget) greeting = greeting

-- the greeting after these entries, where `before` stands before them
abbrev pub greeted_in : Shape → History RingCall → History RingCall → Greeting → Greeting
greeted_in shape before [] greeting = greeting
greeted_in shape before (entry ∷ entries) greeting =
    greeted_in shape (before ++ entry ∷ []) entries
    (greeted_by shape (state_of before) entry.1 greeting)

-- the greeting of the last one who joined since the first so many calls of a history
abbrev pub greeted_since : Shape → ℕ → History RingCall → Greeting
greeted_since shape count history =
    greeted_in shape (take count history) (drop count history) None
