-- What contracts see of a gate in memory.
use Rattle.std.specs.Prelude.{ℕ, ◌≡◌, ◌==◌, nat_le, List, [], ◌∷◌, length, drop, Bool, Option}
use Rattle.cast_io.specs.declared.door.Arrived.{Arrived}
use Rattle.cast_io.specs.declared.door.Arrived.TheVariants as arrived
use Rattle.cast_io.specs.declared.gate_end.GateEnd.{GateEnd}
use Rattle.cast_io.specs.declared.gate_end.GateEnd.TheVariants as ends
use Rattle.cast_io.specs.declared.yard_asked.YardAsked.{YardAsked}
use Rattle.cast_io.specs.Peers.{no_peer}
use Rattle.cast_io.specs.Yards.{GateTold}
use Rattle.cast_io.specs.FakeLinks.{LinkState}
use Rattle.cast_io.specs.FakeDoors.{DoorState, door_told, is_new_door}

-- a gate in memory: the door at which its links arrive, the peers of the links to come, the peer of
-- the link that was given last, when it is over, how often it was asked whether it is, and what it
-- was made for, once a yard gave it
pub record GateState : Type 0 where
  pub door : DoorState
  pub peers : List (List ℕ)
  pub peer : List ℕ
  pub end : GateEnd
  pub asks : ℕ
  pub origin : YardAsked

-- a gate of this end is over, with these arrivals to come and after so many asks
abbrev pub has_ended : GateEnd → List (Option LinkState) → ℕ → Bool
has_ended ends.UsedUp left asks = length left == 0
has_ended (ends.Asked most) left asks = nat_le most asks

-- the gate is over
abbrev pub gate_over : GateState → Bool
gate_over gate = has_ended gate.end gate.door.left gate.asks

-- a gate in memory tells all that a gate can tell
abbrev pub gate_told : GateState → GateTold
gate_told gate = record { door = door_told gate.door; over = gate_over gate }

-- no link came back to the gate, and none of its accepts failed
abbrev pub is_new_gate : GateState → Bool
is_new_gate gate = is_new_door gate.door

-- the gate as a yard gives it that was asked for this
abbrev pub made_for : YardAsked → GateState → GateState
made_for asked gate = record gate { origin = asked }

-- a gate that has not been called, at this door, with these peers of its links
pub record IsGateOf (gate : GateState) (door : DoorState) (peers : List (List ℕ)) (end : GateEnd)
    : Type 0 where
  pub door_is : gate.door ≡ door
  pub peers_are : gate.peers ≡ peers
  pub peer : gate.peer ≡ no_peer
  pub end_is : gate.end ≡ end
  pub asks : gate.asks ≡ 0

-- the first of the peers; where there is none, it is not told
abbrev pub first_peer : List (List ℕ) → List ℕ
first_peer [] = no_peer
first_peer (peer ∷ peers) = peer

-- the peers of the links to come, after this answer
abbrev pub peers_after : {L : Type 0} → Arrived L → List (List ℕ) → List (List ℕ)
peers_after (arrived.Link link) peers = drop 1 peers
peers_after arrived.Idle peers = peers
peers_after arrived.Failed peers = peers

-- the peer of the link that was given last, after this answer
abbrev pub peer_after : {L : Type 0} → Arrived L → List (List ℕ) → List ℕ → List ℕ
peer_after (arrived.Link link) peers last = first_peer peers
peer_after arrived.Idle peers last = last
peer_after arrived.Failed peers last = last
