-- A claim that is held from one feeding to the next.
use Rattle.std.proofs.Common.{◌≡◌, ℕ, [], refl, sym, subst, ap, ◌∙◌, Option, None, Some}
use Rattle.std.specs.Prelude.{IfNone, IfSome}
use Rattle.std.proofs.lemmas.List.{append-nil}
use Rattle.turn_log.specs.History.{History}
use Rattle.mount_ring.specs.declared.RingCall.{RingCall}
use Rattle.source_session.specs.declared.fault.SourceHalt.{SourceHalt}
use Rattle.source_session.specs.declared.session.SourceSession.{SourceSession}
use Rattle.source_session.specs.Calls.{IsHolding, HeldSince}

pub held_here : (me claim : ℕ) (h : History RingCall) → IsHolding me claim h → HeldSince me claim h
held_here me claim h holds = (h, holds, ([], sym (append-nil h), refl))

-- where a session goes on
pub held_on : (halt : Option SourceHalt) (me claim : ℕ) (h : History RingCall)
    → IfNone halt (IsHolding me claim h) → IfNone halt (HeldSince me claim h)
held_on None me claim h holds = held_here me claim h holds
held_on (Some halt) me claim h holds = tt

-- a session that was fed: it holds what it held, or was halted and is as it was
pub holds_fed : (P : Type 0) (old new : SourceSession) (now : History RingCall) (halt : Option SourceHalt)
    → old.halt ≡ halt → IfSome halt (λ why. (new ≡ old) × P) → IfNone halt (IsHolding old.me old.claim now)
    → new.me ≡ old.me → new.claim ≡ old.claim
    → IfNone new.halt (IsHolding new.me new.claim now)
holds_fed P old new now None is same holds me claim =
    any new.halt (subst (λ (m : ℕ). IsHolding m new.claim now) (sym me)
    (subst (λ (k : ℕ). IsHolding old.me k now) (sym claim) holds))
  where
    any : (o : Option SourceHalt) → IsHolding new.me new.claim now → IfNone o (IsHolding new.me new.claim now)
    any None x = x
    any (Some why) x = tt
holds_fed P old new now (Some why) is same holds me claim =
    let still : new.halt ≡ Some why = ap (λ (s : SourceSession). s.halt) same.0 ∙ is in
    subst (λ (o : Option SourceHalt). IfNone o (IsHolding new.me new.claim now)) (sym still) tt
