-- What a caster asks of its street, and what it is given: a door for each worker, and a link for
-- each relay.
use Rattle.std.specs.Prelude.{ℕ, ◌≡◌, ◌≤◌, ◌+◌, nat_lt, Bool, false, IsTrue, List, [], ◌∷◌, ◌++◌, map, replicate}
use Rattle.std.specs.List.{list_any}
use Rattle.cast_io.specs.declared.steps.Asked.{Asked}
use Rattle.cast_io.specs.declared.steps.Asked.TheVariants as asked
use Rattle.cast_io.specs.Causes.{Rose}
use Rattle.cast_io.specs.Told.{LinkTold, DoorTold, StreetTold, Grew}
use Rattle.cast_io.specs.Links.{IsNewLink}
use Rattle.cast_io.specs.Doors.{IsNewDoor}
use Rattle.caster_accounts.specs.Sums.{nothing}
use Rattle.cast_config.specs.declared.config.Config.{Config}
use Rattle.cast_config.specs.declared.config.Relay.{Relay}
use Rattle.caster_serve.specs.declared.caller_task.Endpoint.{Endpoint}
use Rattle.caster_serve.specs.declared.caller_task.Endpoint.TheVariants as ends
use Rattle.caster_serve.specs.declared.caller_task.CallerTask.{CallerTask}

-- ---- what is asked

abbrev pub dial_of : Relay → Asked
dial_of relay = asked.Dial relay.address

-- the doors of all workers at one address, and then the peer of each relay, in order
abbrev pub asked_of : Config → List ℕ → List Asked
asked_of c addr = asked.Open addr c.workers ∷ map dial_of c.relay

-- ---- what is given

-- a door, or the link of the relay of this number, as it is told
pub data EndpointTold : Type 0 where
  at_door : DoorTold → EndpointTold
  over_link : ℕ → LinkTold → EndpointTold

abbrev pub end_of : {D L : Type 0} → (D → DoorTold) → (L → LinkTold) → Endpoint D L → EndpointTold
end_of door_told link_told (ends.Door door) = at_door (door_told door)
end_of door_told link_told (ends.Link number link) = over_link number (link_told link)

-- what a task is over
abbrev pub end_told : {D L : Type 0} → (D → DoorTold) → (L → LinkTold) → CallerTask D L
    → EndpointTold
end_told door_told link_told task = end_of door_told link_told task.end

-- a task over this end, of which nothing was done
abbrev pub unserved : {D L : Type 0} → Endpoint D L → CallerTask D L
unserved end = record { end = end; tally = nothing; served = 0 }

-- the same at this door
abbrev pub at_new_door : {D L : Type 0} → D → CallerTask D L
at_new_door door = unserved (ends.Door door)

abbrev pub IsUnserved : {D L : Type 0} → CallerTask D L → Type 0
IsUnserved task = task ≡ unserved task.end

-- whose it is: a worker's, or the relay's of this number
pub data Kind : Type 0 where
  a_worker : Kind
  a_relay : ℕ → Kind

abbrev pub kind_of : EndpointTold → Kind
kind_of (at_door door) = a_worker
kind_of (over_link number link) = a_relay number

-- these relays, numbered from this number on
abbrev pub relays_from : ℕ → List Relay → List Kind
relays_from n [] = []
relays_from n (relay ∷ more) = a_relay n ∷ relays_from (n + 1) more

-- all of a caster, in the order of their numbers: first its workers, and then its relays
abbrev pub kinds : Config → List Kind
kinds c = replicate c.workers a_worker ++ relays_from 0 c.relay

-- nothing was done with it
abbrev pub IsUnused : EndpointTold → Type 0
IsUnused (at_door door) = IsNewDoor door
IsUnused (over_link number link) = IsNewLink link

-- ---- what is given back

abbrev pub doors_in : List EndpointTold → List DoorTold
doors_in [] = []
doors_in (at_door door ∷ more) = door ∷ doors_in more
doors_in (over_link number link ∷ more) = doors_in more

abbrev pub links_in : List EndpointTold → List LinkTold
links_in [] = []
links_in (at_door door ∷ more) = links_in more
links_in (over_link number link ∷ more) = link ∷ links_in more

-- a door that failed
abbrev pub door_failed : EndpointTold → Bool
door_failed (at_door door) = nat_lt 0 door.faults
door_failed (over_link number link) = false

-- The street took these back as they are told, each door shut and each link hung up, in order.
-- Where a door among them failed, its count of faults rose.
pub record HasTakenBack (given : List EndpointTold) (old new : StreetTold) : Type 0 where
  pub asked : new.asked ≡ old.asked
  pub doors : Grew old.doors new.doors (doors_in given)
  pub links : Grew old.links new.links (links_in given)
  pub later : old.faults ≤ new.faults
  pub rose : IsTrue (list_any door_failed given) → Rose old.faults new.faults

-- The street was asked for these, in order, and nothing came back to it.
pub record HasAsked (wanted : List Asked) (old new : StreetTold) : Type 0 where
  pub asked : Grew old.asked new.asked wanted
  pub doors : new.doors ≡ old.doors
  pub links : new.links ≡ old.links
  pub later : old.faults ≤ new.faults
