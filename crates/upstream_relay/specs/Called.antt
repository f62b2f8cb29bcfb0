-- What a call of a relay adds to the history of its mountpoint, and what it answers.
use Rattle.std.specs.Prelude.{ℕ, ⊤, Bool, List, Option, None, Some, IfNone}
use Rattle.turn_log.specs.History.{History}
use Rattle.turn_log.specs.Heard.{Heard}
use Rattle.turn_log.specs.declared.place.Turns.{Ghosts}
use Rattle.mount_ring.specs.declared.Ring.{Ring}
use Rattle.mount_ring.specs.declared.Outbox.{Outbox}
use Rattle.mount_ring.specs.declared.RingCall.{RingCall}
use Rattle.mount_ring.specs.declared.RingAnswer.{RingAnswer}
use Rattle.mount_ring.specs.declared.RingShape.{RingShape}
use Rattle.session_calls.specs.Steps.{Step, on_ring}
use Rattle.source_session.specs.Calls.{IsHolding, HeldSince}
use Rattle.source_session.specs.Places.{ring_answer}
use Rattle.upstream_relay.specs.declared.body.RelayStage.{RelayStage}
use Rattle.upstream_relay.specs.declared.body.RelayStage.TheVariants.{Head, Body, Halted}

-- some calls were made, in order and no other of the caller's, each answered at its own point, and
-- this holds of them
abbrev pub Adds : (alone : Bool) → (History RingCall → ℕ → RingCall → RingAnswer) → History RingCall
    → History RingCall → ℕ → ℕ → (List Step → Type 0) → Type 0
Adds alone answer old now me mount Holds =
    (steps : List Step) × Heard alone answer old now me (on_ring mount steps) × Holds steps

-- the same at a place of the mountpoint's ring, which is asked as T.Turns says
abbrev pub AddsAt : {P : Type 0} → Ghosts P Ring RingCall RingAnswer Outbox RingShape → P → P → ℕ
    → ℕ → (List Step → Type 0) → Type 0
AddsAt ring old now me mount Holds =
    Adds (ring.alone old) (ring_answer (ring.shape old)) (ring.seen old) (ring.seen now) me mount
    Holds

-- the caller holds the mountpoint under the claim that was given, if one was
abbrev pub IsHoldingBy : ℕ → Option ℕ → History RingCall → Type 0
IsHoldingBy me None history = ⊤
IsHoldingBy me (Some claim) history = IsHolding me claim history

-- where a body goes on, its claim was not given back
abbrev pub IsHeldAt : ℕ → RelayStage → History RingCall → Type 0
IsHeldAt me (Head head cutter) history = ⊤
IsHeldAt me (Body session) history =
    IfNone session.halt (HeldSince me session.claim history)
IsHeldAt me (Halted halt) history = ⊤
