-- What a station keeps, and what a caller's hall holds after a call.
use Rattle.std.specs.Prelude.{◌≡◌, ℕ, List, map}
use Rattle.mount_ring.specs.declared.call.RingCall.{RingCall}
use Rattle.mount_ring.specs.declared.call.RingCall.TheVariants.{Claim, Release, Publish, Join, Look, Read}
use Rattle.mount_ring.specs.History.{Shape, State, permits_at}
use Rattle.mount_ring.specs.History as rings
use Rattle.mount_ring.specs.declared.shape.RingShape.{RingShape}
use Rattle.mount_ring.specs.Kept.{Keeps, ring_shape}
use Rattle.last_frames.specs.declared.station.Station.{Station}
use Rattle.last_frames.specs.Last.{station_numbers, last_permitted}
use Rattle.last_frames.specs.Latest.{latest_of}
use Rattle.last_frames.specs.Placed.{InHall}

-- its shape is that of its ring
abbrev pub station_shape : Station → RingShape
station_shape station = ring_shape station.ring

-- The station keeps what this state says: its ring does, and of each number it keeps the last of
-- all frames that were published.
abbrev pub IsKept : Station → State → Type 0
IsKept station state =
    Keeps station.ring state
    × (station.latest.items ≡ map (latest_of state.published) station_numbers)

-- the greeting after a call: a Join fills it, and other calls leave it as it was
abbrev pub greeting_by : Shape → State → RingCall → List (List ℕ) → List (List ℕ)
greeting_by shape state Claim greeting = greeting
greeting_by shape state (Release claim) greeting = greeting
greeting_by shape state (Publish claim frame) greeting = greeting
greeting_by shape state (Join filter) greeting =
    last_permitted (permits_at shape filter) state.published
greeting_by shape state Look greeting = greeting
greeting_by shape state (Read cursor budget) greeting = greeting

-- the hall after a call: the outbox is that of the ring
abbrev pub filled : Shape → State → RingCall → InHall → InHall
filled shape state call hall = record {
  outbox = rings.filled shape state call hall.outbox;
  greeting = greeting_by shape state call hall.greeting;
}
