-- Where a relay stands with all bytes of the other caster that it was fed so far, and with all
-- calls that it made at its mountpoint.
use Rattle.std.specs.Prelude.{◌≡◌, ℕ, ⊤, Bool, false, List, [], ◌∷◌, drop, Option, None, Some}
use Rattle.std.specs.Option.{option_map}
use Rattle.mount_ring.specs.declared.RingCall.TheVariants.{Claim}
use Rattle.mount_ring.specs.declared.RingAnswer.TheVariants as answers
use Rattle.session_calls.specs.Steps.{Step, at_ring}
use Rattle.source_session.specs.declared.session.SourceSession.{SourceSession}
use Rattle.source_session.specs.Standing.{is_chunked, is_cut_short}
use Rattle.source_session.specs.Standing as source
use Rattle.ntrip_client.specs.declared.Answer.{Answer}
use Rattle.ntrip_client.specs.declared.Answer.TheVariants.{Open, Accepted, Refused}
use Rattle.ntrip_client.specs.declared.answer.Refusal.TheVariants as refusals
use Rattle.ntrip_client.specs.Answer.{IsAnswer}
use Rattle.upstream_relay.specs.declared.fault.RelayHalt.{RelayHalt}
use Rattle.upstream_relay.specs.declared.fault.RelayHalt.TheVariants.{BadHead, LongHead, Coding, Table, Status, Taken, Done, BadChunk, Worn, Memory}
use Rattle.upstream_relay.specs.declared.body.RelayStage.{RelayStage}
use Rattle.upstream_relay.specs.declared.body.RelayStage.TheVariants.{Head, Body, Halted}
use Rattle.upstream_relay.specs.declared.session.RelaySession.{RelaySession}
use Rattle.upstream_relay.specs.Halts.{halt_of_source, is_refused_turn}
use Rattle.upstream_relay.specs.Owed.{owed, IsDone}

-- what halted the relay, if it was
abbrev pub halt_at : RelayStage → Option RelayHalt
halt_at (Head head cutter) = None
halt_at (Body session) = option_map halt_of_source session.halt
halt_at (Halted halt) = Some halt

-- the number of the claim that it was given, if it was
abbrev pub claim_at : RelayStage → Option ℕ
claim_at (Head head cutter) = None
claim_at (Body session) = Some session.claim
claim_at (Halted halt) = None

-- whether a turn was refused
abbrev pub is_short_at : RelayStage → Bool
is_short_at (Head head cutter) = false
is_short_at (Body session) = is_cut_short session.halt
is_short_at (Halted halt) = is_refused_turn halt

-- the answer accepts
abbrev pub IsAccepted : Answer → Type 0
IsAccepted Open = ⊥
IsAccepted (Accepted at chunked) = ⊤
IsAccepted (Refused why) = ⊥

-- the first call was Claim, and this claim was given
abbrev pub IsClaimed : ℕ → ℕ → List Step → Type 0
IsClaimed mount claim [] = ⊥
IsClaimed mount claim (step ∷ steps) = step ≡ at_ring mount Claim (answers.Given claim)

-- a relay was halted before a claim was given: by the answer, by who holds the mountpoint, or by
-- the place, which refused the turn
abbrev pub IsHaltedBy : ℕ → Answer → List Step → RelayHalt → Type 0
IsHaltedBy mount answer steps BadHead = answer ≡ Refused refusals.BadHead
IsHaltedBy mount answer steps LongHead = answer ≡ Refused refusals.LongHead
IsHaltedBy mount answer steps Coding = answer ≡ Refused refusals.Coding
IsHaltedBy mount answer steps Table = answer ≡ Refused refusals.Table
IsHaltedBy mount answer steps (Status status) = answer ≡ Refused (refusals.Status status)
IsHaltedBy mount answer steps (Taken caller claim) =
    IsAccepted answer × (steps ≡ at_ring mount Claim (answers.Taken caller claim) ∷ [])
IsHaltedBy mount answer steps Done = ⊥
IsHaltedBy mount answer steps (BadChunk place) = ⊥
IsHaltedBy mount answer steps (Worn turns) = IsAccepted answer × (steps ≡ [])
IsHaltedBy mount answer steps Memory = IsAccepted answer × (steps ≡ [])

-- the source that publishes the body stands where the body so far leaves it
pub record HasBody (mount me : ℕ) (session : SourceSession) (answer : Answer) (bytes : List ℕ)
    (steps : List Step) : Type 0 where
  pub at : ℕ
  pub accepted : answer ≡ Accepted at (is_chunked session)
  pub caller : session.me ≡ me
  pub stands : source.StandsFor session (drop at bytes)
  pub claimed : IsClaimed mount session.claim steps

abbrev pub IsAtStage : ℕ → ℕ → RelayStage → Answer → List ℕ → List Step → Type 0
IsAtStage mount me (Head head cutter) answer bytes steps = (head ≡ bytes) × (answer ≡ Open)
IsAtStage mount me (Body session) answer bytes steps = HasBody mount me session answer bytes steps
IsAtStage mount me (Halted halt) answer bytes steps = IsHaltedBy mount answer steps halt

-- These bytes came and these calls were made, under this number of the mountpoint: the calls are
-- those that the bytes owe, all of them, or where a turn was refused a beginning of them.
pub record StandsAt (mount me : ℕ) (stage : RelayStage) (bytes : List ℕ) (steps : List Step)
    : Type 0 where
  pub answer : Answer
  pub says : IsAnswer bytes answer
  pub made : IsDone (is_short_at stage) (owed mount answer bytes) steps
  pub at_stage : IsAtStage mount me stage answer bytes steps

abbrev pub StandsFor : ℕ → RelaySession → List ℕ → List Step → Type 0
StandsFor mount session bytes steps = StandsAt mount session.me session.stage bytes steps
