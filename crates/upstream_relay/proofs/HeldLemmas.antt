-- A claim that is held from one feeding to the next.
use Rattle.std.proofs.Common.{◌≡◌, ℕ, sym, ap, subst, ◌∙◌, Option, None, Some}
use Rattle.std.specs.Prelude.{IfNone, IfSome}
use Rattle.std.specs.Option.{option_map}
use Rattle.turn_log.specs.History.{History}
use Rattle.mount_ring.specs.declared.RingCall.{RingCall}
use Rattle.source_session.proofs.HeldLemmas.{held_here}
use Rattle.source_session.specs.declared.fault.SourceHalt.{SourceHalt}
use Rattle.source_session.specs.Calls.{IsHolding, HeldSince}
use Rattle.upstream_relay.specs.declared.fault.RelayHalt.{RelayHalt}
use Rattle.upstream_relay.specs.declared.body.RelayStage.{RelayStage}
use Rattle.upstream_relay.specs.declared.body.RelayStage.TheVariants.{Head, Body, Halted}
use Rattle.upstream_relay.specs.declared.session.RelaySession.{RelaySession}
use Rattle.upstream_relay.specs.Halts.{halt_of_source}
use Rattle.upstream_relay.specs.Standing.{halt_at, claim_at}
use Rattle.upstream_relay.specs.Called.{IsHoldingBy, IsHeldAt}

pub held_by : (me : ℕ) (stage : RelayStage) (h : History RingCall) → IfNone (halt_at stage)
    (IsHoldingBy me (claim_at stage) h)
    → IsHeldAt me stage h
held_by me (Head head cutter) h holds = tt
held_by me (Body session) h holds = by_halt session.halt holds
  where
    by_halt : (halt : Option SourceHalt) → IfNone (option_map halt_of_source halt) (IsHolding me session.claim h)
        → IfNone halt (HeldSince me session.claim h)
    by_halt None x = held_here me session.claim h x
    by_halt (Some halt) x = tt
held_by me (Halted halt) h holds = tt

-- a relay that was fed: it holds what it holds, or was halted and is as it was
pub holds_fed : (P : Type 0) (old new : RelaySession) (now : History RingCall) (halt : Option RelayHalt)
    → halt_at old.stage ≡ halt → IfSome halt (λ (why : RelayHalt). (new ≡ old) × P)
    → IfNone halt (IsHoldingBy old.me (claim_at new.stage) now) → new.me ≡ old.me
    → IfNone (halt_at new.stage) (IsHoldingBy new.me (claim_at new.stage) now)
holds_fed P old new now None is same holds me =
    any (halt_at new.stage) (subst (λ (m : ℕ). IsHoldingBy m (claim_at new.stage) now) (sym me) holds)
  where
    any : (o : Option RelayHalt) → IsHoldingBy new.me (claim_at new.stage) now
        → IfNone o (IsHoldingBy new.me (claim_at new.stage) now)
    any None x = x
    any (Some why) x = tt
holds_fed P old new now (Some why) is same holds me =
    let still : halt_at new.stage ≡ Some why = ap (λ (s : RelaySession). halt_at s.stage) same.0 ∙ is in
    subst (λ (o : Option RelayHalt). IfNone o (IsHoldingBy new.me (claim_at new.stage) now)) (sym still) tt

-- where nothing halted it before
pub held_fed : (P : Type 0) (old new : RelaySession) (now : History RingCall) (halt : Option RelayHalt)
    → halt_at old.stage ≡ halt → IfSome halt (λ (why : RelayHalt). (new ≡ old) × P)
    → IfNone halt (IsHoldingBy old.me (claim_at new.stage) now) → new.me ≡ old.me → IsHeldAt new.me new.stage now
held_fed P old new now halt is same holds me =
    held_by new.me new.stage now (holds_fed P old new now halt is same holds me)

-- the claim that it was given
pub held_claim : (old new : RelaySession) (claim : ℕ) (now : History RingCall) → halt_at old.stage ≡ None
    → IfNone (halt_at old.stage) (IsHoldingBy old.me (claim_at new.stage) now) → new.me ≡ old.me
    → claim_at new.stage ≡ Some claim → HeldSince new.me claim now
held_claim old new claim now goes holds me is =
    let held : IsHoldingBy old.me (claim_at new.stage) now =
    subst (λ (o : Option RelayHalt). IfNone o (IsHoldingBy old.me (claim_at new.stage) now)) goes holds in
    held_here new.me claim now
    (subst (λ (m : ℕ). IsHolding m claim now) (sym me)
    (subst (λ (o : Option ℕ). IsHoldingBy old.me o now) is held))
