-- When a claim is not given, and what a halt shows of the place.
use Rattle.std.specs.Prelude.{ℕ, ⊤, Bool}
use Rattle.turn_log.specs.declared.TurnFault.{TurnFault}
use Rattle.turn_log.specs.declared.TurnFault.TheVariants as turns
use Rattle.turn_log.specs.Faults.{IsFault}
use Rattle.source_session.specs.declared.fault.ClaimFault.{ClaimFault}
use Rattle.source_session.specs.declared.fault.ClaimFault.TheVariants as claims
use Rattle.source_session.specs.declared.fault.SourceHalt.{SourceHalt}
use Rattle.source_session.specs.declared.fault.SourceHalt.TheVariants as halts

-- the refusal of a turn as the fault of a claim
abbrev pub claim_refused : TurnFault → ClaimFault
claim_refused (turns.Worn given) = claims.Worn given
claim_refused turns.Memory = claims.Memory

-- and as what halts a session
abbrev pub halt_refused : TurnFault → SourceHalt
halt_refused (turns.Worn given) = halts.Worn given
halt_refused turns.Memory = halts.Memory

-- A claim that is not given is taken, or the place refused the turn: it is worn by so many turns,
-- or may lack memory.
abbrev pub IsClaimFault : (may_lack : Bool) → ℕ → ClaimFault → Type 0
IsClaimFault may_lack worn (claims.Taken caller claim) = ⊤
IsClaimFault may_lack worn (claims.Worn given) = IsFault may_lack worn (turns.Worn given)
IsClaimFault may_lack worn claims.Memory = IsFault may_lack worn turns.Memory

-- A session is halted by its body, or the place refused the turn.
abbrev pub IsHaltOf : (may_lack : Bool) → ℕ → SourceHalt → Type 0
IsHaltOf may_lack worn halts.Done = ⊤
IsHaltOf may_lack worn (halts.BadChunk place) = ⊤
IsHaltOf may_lack worn (halts.Worn given) = IsFault may_lack worn (turns.Worn given)
IsHaltOf may_lack worn halts.Memory = IsFault may_lack worn turns.Memory
