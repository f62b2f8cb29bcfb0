-- What a whole caster did that served until its workers were done.
use Rattle.std.specs.Prelude.{◌≡◌, ℕ, ◌≤◌, ◌⊎◌, IsTrue, List, length, map, take, Result, Ok, Err}
use Rattle.std.specs.List.{All, list_all}
use Rattle.cast_io.specs.Causes.{Rose}
use Rattle.cast_io.specs.Told.{StreetTold, Grew}
use Rattle.caster_accounts.specs.Sums.{nothing}
use Rattle.cast_config.specs.declared.config.Config.{Config}
use Rattle.session_model.specs.declared.report.Closed.{Closed}
use Rattle.session_model.specs.Run.{Histories}
use Rattle.session_model.specs.Reports.{added, closed_of}
use Rattle.caster_serve.specs.Endpoints.{EndpointTold, IsUnused, asked_of, doors_in, links_in, kind_of, kinds}
use Rattle.caster_places.specs.Rows.{AreWhole}
use Rattle.caster_serve.specs.declared.whole.ServeFault.{ServeFault}
use Rattle.caster_serve.specs.declared.whole.ServeFault.TheVariants as faults
use Rattle.caster_serve.specs.Callers.{Caller, AreServed, calls_in, ends_of, is_whole, seen_of}

-- these doors were shut and these links hung up, in order, as they are told
pub record HasGivenBack (ends : List EndpointTold) (old new : StreetTold) : Type 0 where
  pub doors : Grew old.doors new.doors (doors_in ends)
  pub links : Grew old.links new.links (links_in ends)

-- All callers served: in the order of their numbers, first the workers and then the relays. Then
-- all doors and links were given back. There is one history of each mountpoint and one of the book:
-- each caller has seen a beginning of it with all its own calls, and nobody else called. A receipt
-- tells of a worn place, or is not settled, only where one of these histories has 2^62 calls or
-- more.
pub record AllServed (c : Config) (limit : ℕ) (old new : StreetTold) (callers : List Caller)
    (histories : Histories) : Type 0 where
  pub kinds_are : map kind_of (ends_of callers) ≡ kinds c
  pub served : AreServed c limit (calls_in histories) 0 callers
  pub given_back : HasGivenBack (ends_of callers) old new
  pub whole : AreWhole (seen_of callers) histories (length c.mount)

-- Nobody served, and what the street had given was given back as it had come.
pub record NoneServed (old new : StreetTold) : Type 0 where
  pub ends : List EndpointTold
  pub unused : All IsUnused ends
  pub given_back : HasGivenBack ends old new

-- All served, each worker as many links as it was to; and the caster came to what its histories
-- say. All accounts together are the sum of the callers' tallies.
pub record ClosedWhole (c : Config) (limit : ℕ) (old new : StreetTold) (closed : Closed) : Type 0
  where
    pub callers : List Caller
    pub histories : Histories
    pub all : AllServed c limit old new callers histories
    pub whole : IsTrue (list_all (is_whole limit) callers)
    pub closed_is : closed ≡ closed_of c histories
    pub total : closed.total ≡ added nothing (map (λ (caller : Caller). caller.tally) callers)

-- All served, but for a worker whose door failed.
pub record EndedEarly (c : Config) (limit : ℕ) (old new : StreetTold) : Type 0 where
  pub callers : List Caller
  pub histories : Histories
  pub all : AllServed c limit old new callers histories
  pub rose : Rose old.faults new.faults

-- how it went once all that was asked for had been given
abbrev pub Ended : Config → ℕ → StreetTold → StreetTold → Result Closed ServeFault → Type 0
Ended c limit old new (Ok closed) = ClosedWhole c limit old new closed
Ended c limit old new (Err faults.Network) = EndedEarly c limit old new
Ended c limit old new (Err faults.Memory) = NoneServed old new

-- The street was asked for the first of what a caster asks for, and nobody served.
pub record Refused (c : Config) (addr : List ℕ) (old new : StreetTold) : Type 0 where
  pub n : ℕ
  pub asked : Grew old.asked new.asked (take n (asked_of c addr))
  pub none : NoneServed old new

-- The street was asked for all of it, and then it went so.
pub record Went (c : Config) (addr : List ℕ) (limit : ℕ) (old new : StreetTold)
    (result : Result Closed ServeFault) : Type 0 where
  pub asked : Grew old.asked new.asked (asked_of c addr)
  pub ended : Ended c limit old new result

-- what the answer says of it
abbrev pub Answered : Config → List ℕ → ℕ → StreetTold → StreetTold → Result Closed ServeFault
    → Type 0
Answered c addr limit old new (Ok closed) = Went c addr limit old new (Ok closed)
Answered c addr limit old new (Err faults.Network) =
    Went c addr limit old new (Err faults.Network)
    ⊎ (Refused c addr old new × Rose old.faults new.faults)
Answered c addr limit old new (Err faults.Memory) = Refused c addr old new

-- the whole of it
pub record HasServed (c : Config) (addr : List ℕ) (limit : ℕ) (old new : StreetTold)
    (result : Result Closed ServeFault) : Type 0 where
  pub later : old.faults ≤ new.faults
  pub answered : Answered c addr limit old new result
