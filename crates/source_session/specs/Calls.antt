-- The calls of a source on its mountpoint.
use Rattle.std.specs.Prelude.{◌≡◌, ℕ, ◌+◌, Bool, IsTrue, List, [], ◌∷◌, ◌++◌, length, map, sum_by, Option, None, Some}
use Rattle.turn_log.specs.History.{History, GoesOn}
use Rattle.turn_log.specs.Heard.{calls_in, Heard, HeardFirst}
use Rattle.mount_ring.specs.declared.RingCall.{RingCall}
use Rattle.mount_ring.specs.declared.RingCall.TheVariants.{Claim, Publish}
use Rattle.mount_ring.specs.declared.RingAnswer.{RingAnswer}
use Rattle.mount_ring.specs.declared.RingAnswer.TheVariants as answers
use Rattle.mount_ring.specs.History.{state_of, is_holder}
use Rattle.source_session.specs.Body.{payload, frames_of, completed}
use Rattle.source_session.specs.declared.fault.ClaimFault.{ClaimFault}
use Rattle.source_session.specs.declared.fault.ClaimFault.TheVariants as faults
use Rattle.source_session.specs.declared.fault.SourceHalt.{SourceHalt}
use Rattle.source_session.specs.declared.fault.SourceHalt.TheVariants.{Done, BadChunk, Worn, Memory}

-- frames published under a claim
abbrev pub publishes : ℕ → List (List ℕ) → List RingCall
publishes claim frames = map (λ frame. Publish claim frame) frames

-- the caller holds the mountpoint under this claim
abbrev pub IsHolding : ℕ → ℕ → History RingCall → Type 0
IsHolding me claim history = IsTrue (is_holder (state_of history).holder me claim)

-- the caller held the mountpoint at some point, and called nothing since. So it still does, since
-- nobody else may release it
abbrev pub HeldSince : ℕ → ℕ → History RingCall → Type 0
HeldSince me claim now =
    (history : History RingCall) × IsHolding me claim history × GoesOn me history now

-- these calls were all made, in order and no other of the caller's, each answered at its own point
pub record HeardAll {C A : Type 0} (alone : Bool) (answer : History C → ℕ → C → A)
    (old now : History C) (me : ℕ) (calls : List C) : Type 0 where
  -- the calls with their answers
  pub pairs : List (C × A)
  pub made : calls_in pairs ≡ calls
  pub heard : Heard alone answer old now me pairs

-- what was called by the time of a halt: with none, at the end of the body or at a fault of it all
-- of these, and by a refused turn the first of them
abbrev pub HeardBy : {C A : Type 0} → Option SourceHalt → (alone : Bool) → (History C → ℕ → C → A)
    → History C → History C → ℕ → List C → Type 0
HeardBy None alone answer old now me calls = HeardAll alone answer old now me calls
HeardBy (Some Done) alone answer old now me calls = HeardAll alone answer old now me calls
HeardBy (Some (BadChunk at)) alone answer old now me calls = HeardAll alone answer old now me calls
HeardBy (Some (Worn turns)) alone answer old now me calls = HeardFirst alone answer old now me calls
HeardBy (Some Memory) alone answer old now me calls = HeardFirst alone answer old now me calls

-- what was called where a claim was not given: Claim, which was answered by who holds the
-- mountpoint; or nothing, where the turn was refused
abbrev pub IsUnclaimed : ClaimFault → (alone : Bool) → (History RingCall → ℕ → RingCall
    → RingAnswer)
    → History RingCall → History RingCall → ℕ → Type 0
IsUnclaimed (faults.Taken caller claim) alone answer old now me =
    Heard alone answer old now me ((Claim, answers.Taken caller claim) ∷ [])
IsUnclaimed (faults.Worn turns) alone answer old now me = now ≡ old
IsUnclaimed faults.Memory alone answer old now me = now ≡ old

-- ---- a refused turn

-- Of these frames the first were published, and then one was refused. In the bytes that it stands
-- in, each byte before it is in a published frame, is one of so many in frames before, or is junk.
pub record IsRefusedAt {A : Type 0} (alone : Bool) (answer : History RingCall → ℕ → RingCall → A)
    (old now : History RingCall) (me claim : ℕ) (frames : List (List ℕ)) (bytes : List ℕ)
    (before junk : ℕ) : Type 0 where
  -- the frames that were published, the one that was not, and those behind it
  pub given : List (List ℕ)
  pub frame : List ℕ
  pub later : List (List ℕ)
  pub next : frames ≡ given ++ frame ∷ later
  pub made : HeardAll alone answer old now me (publishes claim given)
  -- where the one stands
  pub front : List ℕ
  pub behind : List ℕ
  pub split : bytes ≡ front ++ (frame ++ behind)
  pub counted : before + sum_by length given + junk ≡ length front

-- the same of what more of a body completes, where all frames of the body before were published
abbrev pub IsRefusedIn : {A : Type 0} → (alone : Bool) → (History RingCall → ℕ → RingCall → A)
    → History RingCall → History RingCall → ℕ → ℕ → (chunked : Bool) → List ℕ → List ℕ → ℕ → Type 0
IsRefusedIn alone answer old now me claim chunked body more junk =
    IsRefusedAt alone answer old now me claim (completed chunked body more)
    (payload chunked (body ++ more)) (sum_by length (frames_of chunked body)) junk
