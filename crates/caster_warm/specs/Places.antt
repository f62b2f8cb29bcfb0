-- A place of a run with greetings: at the station of a ring, whose greeting it keeps.
use Rattle.std.specs.Prelude.{◌≡◌, ℕ, List, length, map}
use Rattle.std.specs.Coded.{coded_ℕ}
use base.Stored.{Gv}
use Rattle.turn_log.specs.History.{History, IsLegal}
use Rattle.turn_log.specs.Past.{so_far}
use Rattle.turn_log.specs.Faults.{worn_of}
use Rattle.mount_ring.specs.declared.call.RingCall.{RingCall}
use Rattle.mount_ring.specs.declared.shape.RingShape.{RingShape}
use Rattle.mount_ring.specs.History.{state_of, fits}
use Rattle.mount_ring.specs.Shapes.{shape_of}
use Rattle.last_frames.specs.Greeted.{Greeting, greeted_since}
use Rattle.last_frames.specs.Station.{station_shape}
use Rattle.session_calls.specs.Rings.{history_at, shape_at}
use Rattle.session_model.specs.Run.{Histories}
use Rattle.caster_replay.specs.declared.run.Run.{Run}
use Rattle.caster_replay.specs.Kept.{homes_of}
use Rattle.caster_warm.specs.declared.place.GreetingPlace.{GreetingPlace}

-- ---- one place

abbrev pub place_shape : GreetingPlace → RingShape
place_shape place = station_shape place.place.inner.value

abbrev pub place_seen : GreetingPlace → History RingCall
place_seen place = so_far place.place.inner.past

abbrev pub place_worn : GreetingPlace → ℕ
place_worn place = worn_of (length (place_seen place))

abbrev pub place_legal : (place : GreetingPlace)
    → IsLegal (λ h. fits (shape_of (place_shape place)) (state_of h)) (place_seen place)
place_legal place = place.place.inner.legal

-- How many calls there were when it was made or cleared last. No turn changes that: it is a part of
-- which place this is.
abbrev pub place_home : GreetingPlace → Gv
place_home place = coded_ℕ.code place.place.since

-- and once it is cleared again
abbrev pub cleared_home : GreetingPlace → Gv
cleared_home place = coded_ℕ.code (length (place_seen place))

-- the greeting of the last one who joined since
abbrev pub greeting_at : GreetingPlace → Greeting
greeting_at place =
    greeted_since (shape_of (place_shape place)) place.place.since (place_seen place)

-- ---- those of a run

-- each was cleared at its history
abbrev pub homes_at : List (History RingCall) → List Gv
homes_at rings = map (λ history. coded_ℕ.code (length history)) rings

-- the run was cleared at these histories
abbrev pub WasClearedAt : Histories → Run GreetingPlace → Type 0
WasClearedAt old run = homes_of run ≡ homes_at old.rings

-- the greeting of the last one who joined this mountpoint since these histories
abbrev pub greeting_since : Histories → Run GreetingPlace → ℕ → Greeting
greeting_since old run mount =
    greeted_since (shape_at run.desks.rings mount) (length (history_at old.rings mount))
    (history_at run.desks.seen.rings mount)
