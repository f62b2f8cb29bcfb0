-- What halts a relay, by what it met.
use Rattle.std.specs.Prelude.{ℕ, ⊤, Bool, true, false}
use Rattle.turn_log.specs.declared.TurnFault.TheVariants as turns
use Rattle.turn_log.specs.Faults.{IsFault}
use Rattle.source_session.specs.declared.fault.ClaimFault.{ClaimFault}
use Rattle.source_session.specs.declared.fault.ClaimFault.TheVariants as claims
use Rattle.source_session.specs.declared.fault.SourceHalt.{SourceHalt}
use Rattle.source_session.specs.declared.fault.SourceHalt.TheVariants as sources
use Rattle.ntrip_client.specs.declared.answer.Refusal.{Refusal}
use Rattle.ntrip_client.specs.declared.answer.Refusal.TheVariants as refusals
use Rattle.upstream_relay.specs.declared.fault.RelayHalt.{RelayHalt}
use Rattle.upstream_relay.specs.declared.fault.RelayHalt.TheVariants.{BadHead, LongHead, Coding, Table, Status, Taken, Done, BadChunk, Worn, Memory}

-- an answer without a body
abbrev pub halt_of_refusal : Refusal → RelayHalt
halt_of_refusal refusals.BadHead = BadHead
halt_of_refusal refusals.LongHead = LongHead
halt_of_refusal refusals.Coding = Coding
halt_of_refusal refusals.Table = Table
halt_of_refusal (refusals.Status status) = Status status

-- a claim that was not given
abbrev pub halt_of_claim : ClaimFault → RelayHalt
halt_of_claim (claims.Taken caller claim) = Taken caller claim
halt_of_claim (claims.Worn given) = Worn given
halt_of_claim claims.Memory = Memory

-- a body that is over, or a frame that was not published
abbrev pub halt_of_source : SourceHalt → RelayHalt
halt_of_source sources.Done = Done
halt_of_source (sources.BadChunk place) = BadChunk place
halt_of_source (sources.Worn given) = Worn given
halt_of_source sources.Memory = Memory

-- whether a turn was refused
abbrev pub is_refused_turn : RelayHalt → Bool
is_refused_turn BadHead = false
is_refused_turn LongHead = false
is_refused_turn Coding = false
is_refused_turn Table = false
is_refused_turn (Status status) = false
is_refused_turn (Taken caller claim) = false
is_refused_turn Done = false
is_refused_turn (BadChunk place) = false
is_refused_turn (Worn given) = true
is_refused_turn Memory = true

-- A relay is halted by what it met, or the place refused a turn: it is worn by so many turns, or
-- may lack memory.
abbrev pub IsHaltOf : (may_lack : Bool) → ℕ → RelayHalt → Type 0
IsHaltOf may_lack worn BadHead = ⊤
IsHaltOf may_lack worn LongHead = ⊤
IsHaltOf may_lack worn Coding = ⊤
IsHaltOf may_lack worn Table = ⊤
IsHaltOf may_lack worn (Status status) = ⊤
IsHaltOf may_lack worn (Taken caller claim) = ⊤
IsHaltOf may_lack worn Done = ⊤
IsHaltOf may_lack worn (BadChunk place) = ⊤
IsHaltOf may_lack worn (Worn given) = IsFault may_lack worn (turns.Worn given)
IsHaltOf may_lack worn Memory = IsFault may_lack worn turns.Memory
