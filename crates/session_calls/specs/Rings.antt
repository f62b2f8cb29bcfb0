-- The rings of a caster, seen through places: one place a mountpoint, in the order of their
-- numbers.
use Rattle.std.specs.Prelude.{◌≡◌, ◌≤◌, ℕ, Bool, IsTrue, List, [], length, map, get_or, Contains}
use Rattle.std.specs.List.{All, list_all}
use base.Stored.{Gv}
use Rattle.turn_log.specs.History.{History, GoesOn}
use Rattle.turn_log.specs.Heard.{Heard}
use Rattle.mount_ring.specs.declared.call.RingCall.{RingCall}
use Rattle.mount_ring.specs.declared.call.RingAnswer.{RingAnswer}
use Rattle.mount_ring.specs.declared.shape.RingShape.{RingShape}
use Rattle.mount_ring.specs.History as ring
use Rattle.mount_ring.specs.Shapes.{shape_of}
use Rattle.session_calls.specs.Steps.{Step, on_ring}

-- the history of one mountpoint; empty where there is no such mountpoint
abbrev pub history_at : List (History RingCall) → ℕ → History RingCall
history_at histories mount = get_or histories mount []

-- the capacity and the filters of one mountpoint
abbrev pub shape_at : List RingShape → ℕ → ring.Shape
shape_at shapes mount =
    shape_of (get_or shapes mount (record { capacity = 0; filters = [] }))

-- what a call at one mountpoint is answered after a history of it
abbrev pub answer_at : List RingShape → ℕ → History RingCall → ℕ → RingCall → RingAnswer
answer_at shapes mount history me call =
    ring.answer (shape_at shapes mount) (ring.state_of history) call

-- The histories went on, and at each mountpoint these steps are all the calls that the caller made
-- since, each with the answer at its own point. Where all places are alone, nobody else called.
pub record Went (shapes : List RingShape) (alone : Bool) (old now : List (History RingCall))
    (me : ℕ) (steps : List Step) : Type 0 where
  pub size : length now ≡ length old
  pub rings : (mount : ℕ) → Heard alone (answer_at shapes mount)
      (history_at old mount) (history_at now mount) me (on_ring mount steps)

-- between two calls of a session other callers may have gone on, and the session's caller did not
pub record WentOn (old now : List (History RingCall)) (me : ℕ) : Type 0 where
  pub size : length now ≡ length old
  pub rings : (mount : ℕ) → GoesOn me (history_at old mount) (history_at now mount)

-- Each place is what it was, but for what it has seen and how worn it is.
abbrev pub SamePlaces : {P : Type 0} → (P → RingShape) → (P → ℕ → Bool) → (P → Bool) → (P → Bool)
    → (P → Gv) → List P → List P → Type 0
SamePlaces shape speaks may_lack alone home old now =
    (map shape now ≡ map shape old) × (map speaks now ≡ map speaks old)
    × (map may_lack now ≡ map may_lack old) × (map alone now ≡ map alone old)
    × (map home now ≡ map home old)

-- nobody but the callers of these places takes turns at any of them
abbrev pub all_alone : {P : Type 0} → (P → Bool) → List P → Bool
all_alone alone places = list_all alone places

-- each of the places speaks for this caller
abbrev pub AllSpeak : {P : Type 0} → (P → ℕ → Bool) → List P → ℕ → Type 0
AllSpeak speaks places me = All (λ place. IsTrue (speaks place me)) places

-- each of these numbers is at most the one at the same place of the second list
abbrev pub AllLater : List ℕ → List ℕ → Type 0
AllLater old now = (place : ℕ) → get_or old place 0 ≤ get_or now place 0

-- one of the places is such
abbrev pub IsAmong : {P : Type 0} → (P → Type 0) → List P → Type 0
IsAmong {P} IsSuch places = (place : P) × Contains places place × IsSuch place
