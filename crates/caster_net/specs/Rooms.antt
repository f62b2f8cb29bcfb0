-- The room of sockets, and what a link heeds beside its peer's bytes.
use Rattle.std.specs.Prelude.{ℕ, ◌≡◌, Bool, List, Option, None, Some, IsSome, IsSomeAnd, unwrap_or, if◌then◌else◌}
use Rattle.send_room.specs.declared.flow.Flow.{Flow}
use Rattle.send_room.specs.declared.stuck.Stuck.{Stuck}
use Rattle.send_room.specs.Flows.{IsStuck, size_to_set, timeout_at, with_taken, with_try}
use Rattle.send_room.specs.Windows.{Part, behind, size_of}
use Rattle.caster_net.specs.Silence.{KeepState}

-- what the peer's taking asks for at this time is set
abbrev pub tuned : ℕ → Flow → Flow
tuned now flow = record flow {
  size = unwrap_or (size_to_set now flow) flow.size;
  timeout = timeout_at now flow;
}

-- a look found room, or did not
abbrev pub found : Bool → Flow → Flow
found has_room flow = record flow { closed = if has_room then None else flow.closed }

-- what a link heeds: the stop and QUIET, where it is one of a gate; and the room at its socket,
-- where its reads wait for that
pub record HeedState : Type 0 where
  pub keep : Option KeepState
  pub room : Option Flow

-- that of a link which heeds nothing
abbrev pub new_heed : HeedState
new_heed = record { keep = None; room = None }

-- the last look found room
abbrev pub IsOpen : Flow → Type 0
IsOpen flow = flow.closed ≡ None

-- and here it found none
abbrev pub IsShut : Flow → Type 0
IsShut flow = IsSome flow.closed

-- this shows that no look found room for 90 seconds, of this very socket
abbrev pub IsStuckAt : Stuck → Flow → Type 0
IsStuckAt stuck flow = IsStuck stuck × (flow.closed ≡ Some stuck.since)

-- at some time what the peer's taking asks for was set, and a look found room or did not, where
-- room is heeded
abbrev pub IsLooked : Option Flow → Option Flow → Type 0
IsLooked None new = new ≡ None
IsLooked (Some old) new =
    (now : ℕ) × (has_room : Bool) × (new ≡ Some (found has_room (tuned now old)))

-- at some time it was tried whether the peer is caught up, where room is heeded
abbrev pub IsTried : Option Flow → Option Flow → Type 0
IsTried None new = new ≡ None
IsTried (Some old) new =
    (now : ℕ) × (has_room : Bool) × (new ≡ Some (with_try now has_room old))

-- at some time the room was told of so many bytes that the peer took, where it is heeded
abbrev pub IsTold : ℕ → Option Flow → Option Flow → Type 0
IsTold count None new = new ≡ None
IsTold count (Some old) new = (now : ℕ) × (new ≡ Some (with_taken now count old))

-- what of a flow is looked back at
abbrev pub measured : Flow → List ℕ × ℕ
measured flow = (flow.taken, flow.half)

-- part by part the room was told of so many bytes in all that the peer took, and of no others,
-- where it is heeded
abbrev pub AreTold : ℕ → Option Flow → Option Flow → Type 0
AreTold count None new = new ≡ None
AreTold count (Some old) new = (parts : List Part) × (size_of parts ≡ count)
    × IsSomeAnd new (λ flow. measured flow ≡ measured (behind parts old))
