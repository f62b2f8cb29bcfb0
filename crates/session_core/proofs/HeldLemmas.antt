-- What a connection holds it holds while others call.
use Rattle.std.proofs.Common.{◌≡◌, ◌≢◌, ◌∙◌, ◌<◌, ◌++◌, ◌+◌, ℕ, suc, Bool, true, false, IsTrue, List, [], ◌∷◌, length, refl, sym, ap, subst, Option, None, Some, append_assoc}
use Rattle.std.specs.Prelude.{◌==◌, nat_lt, if◌then◌else◌, IfSome}
use Rattle.std.proofs.lemmas.Bool.{and_parts, and_from, eqb-false}
use Rattle.std.proofs.lemmas.List.{append-nil}
use Rattle.turn_log.specs.History.{History, GoesOn, own}
use Rattle.mount_ring.specs.declared.call.RingCall.{RingCall}
use Rattle.caster_accounts.specs.declared.call.BookCall.{BookCall}
use Rattle.caster_accounts.specs.declared.call.BookCall.TheVariants.{Enter, Leave}
use Rattle.caster_accounts.specs.History.{cap_at, without, is_among, goes, callers_in, may_leave}
use Rattle.caster_accounts.specs.StillFits.{callers_after, among_without}
use Rattle.session_calls.specs.Steps.{Step}
use Rattle.session_calls.specs.Rings.{history_at}
use Rattle.source_session.specs.Calls.{HeldSince}
use Rattle.upstream_relay.specs.Called.{IsHoldingBy}
use Rattle.upstream_relay.specs.Standing as relay_standing
use Rattle.cast_config.specs.declared.config.Config.{Config}
use Rattle.cast_config.specs.declared.config.Group.{Group}
use Rattle.cast_config.specs.declared.config.Mount.{Mount}
use Rattle.session_core.specs.declared.session_stage.SessionStage.{SessionStage}
use Rattle.session_core.specs.declared.session_stage.SessionStage.TheVariants.{Head, Over, Source, Relay, Rover}
use Rattle.session_model.specs.Setting.{caps, shapes, shapes_from}
use Rattle.session_model.specs.Judged.{Opening, Judged}
use Rattle.session_model.specs.Run.{Histories}
use Rattle.session_model.specs.Called.{OthersCalled}
use Rattle.session_core.specs.Standing.{IsAtStage}
use Rattle.session_core.specs.Closing.{IsHeldBy}

-- ---- an account

among_after : (cap account : ℕ) (callers : List ℕ) (me by : ℕ) (call : BookCall) → by ≢ me →
    is_among me callers ≡ true → is_among me (goes cap account callers by call) ≡ true
among_after cap account callers me by (Enter entered) apart mine =
    by_tests (entered == account) (length callers == cap) where
      more : (b : Bool) → (if b then true else is_among me callers) ≡ true
      more true = refl
      more false = mine

      by_tests : (b c : Bool) →
          is_among me (if b then if c then callers else by ∷ callers else callers) ≡ true
      by_tests true true = mine
      by_tests true false = more (by == me)
      by_tests false c = mine
among_after cap account callers me by (Leave left sent overrun) apart mine =
    by_test (left == account) where
      by_test : (b : Bool) → is_among me (if b then without by callers else callers) ≡ true
      by_test true = among_without me by callers apart mine
      by_test false = mine

among_on : (cap account me : ℕ) (h more : History BookCall) → own me more ≡ []
    → is_among me (callers_in cap account h) ≡ true → is_among me (callers_in cap account (h ++ more)) ≡ true
among_on cap account me h [] none mine = subst (λ (l : History BookCall). is_among me
    (callers_in cap account l) ≡ true) (sym (append-nil h)) mine
among_on cap account me h (entry ∷ more) none mine =
    by_test (among_on cap account me (h ++ entry ∷ []) more) (entry.0 == me) refl none where
      one : entry.0 ≢ me → is_among me (callers_in cap account (h ++ entry ∷ [])) ≡ true
      one apart = ap (is_among me) (callers_after cap account h entry.0 entry.1)
          ∙ among_after cap account (callers_in cap account h) me entry.0 entry.1 apart mine

      by_test : (own me more ≡ [] → is_among me (callers_in cap account (h ++ entry ∷ [])) ≡ true
          → is_among me (callers_in cap account ((h ++ entry ∷ []) ++ more)) ≡ true)
          → (b : Bool) → (entry.0 == me) ≡ b → (if b then entry.1 ∷ own me more else own me more) ≡ []
          → is_among me (callers_in cap account (h ++ entry ∷ more)) ≡ true
      by_test later true is some = absurd cc
      by_test later false is rest =
          subst (λ (l : History BookCall). is_among me (callers_in cap account l) ≡ true) (append_assoc h
          (entry ∷ []) more)
          (later rest (one (eqb-false entry.0 me is)))

pub inside_on : (given : List ℕ) (h now : History BookCall) (me account : ℕ) → IsTrue (may_leave given h me account)
    → GoesOn me h now → IsTrue (may_leave given now me account)
inside_on given h now me account may goes =
    let parts = and_parts (nat_lt account (length given)) (is_among me (callers_in
    (cap_at given account) account h)) may in
    subst (λ (l : History BookCall). may_leave given l me account ≡ true) (sym goes.1)
    (and_from (nat_lt account (length given)) (is_among me (callers_in (cap_at given account) account
    (h ++ goes.0))) parts.0
    (among_on (cap_at given account) account me h goes.0 goes.2 parts.1))

-- ---- one ring for each mountpoint

length_from : (groups : List Group) (n : ℕ) (mounts : List Mount) → length (shapes_from groups n mounts) ≡ length mounts
length_from groups n [] = refl
length_from groups n (mount ∷ mounts) = ap (λ l. suc l) (length_from groups (n + 1) mounts)

pub length_shapes : (c : Config) → length (shapes c) ≡ length c.mount
length_shapes c = length_from c.group 0 c.mount

-- ---- by stage

holding_by : (me : ℕ) (claim : Option ℕ) (h now : History RingCall) → IsHoldingBy me claim h → GoesOn me h now
    → IfSome claim (λ n. HeldSince me n now)
holding_by me None h now holds goes = tt
holding_by me (Some claim) h now holds goes = (h, holds, goes)

pub held_at : (c : Config) (me : ℕ) (h now : Histories) (opening : Opening) (j : Judged) (text : List ℕ)
    (steps : List Step) (stage : SessionStage) → IsAtStage c me h opening j text steps stage
    → length now.rings ≡ length c.mount → OthersCalled h now me → IsHeldBy (caps c) me now stage
held_at c me h now opening j text steps (Head head) at long others = tt
held_at c me h now opening j text steps Over at long others = tt
held_at c me h now opening j text steps (Source mount session) at long others = (
  at.caller,
  subst (λ n. mount < n) (sym long) at.within,
  (history_at h.rings mount, at.holds, others.rings.rings mount),
)
held_at c me h now opening j text steps (Relay mount session) at long others = (
  at.caller,
  subst (λ n. mount < n) (sym long) at.within,
  holding_by me (relay_standing.claim_at session.stage) (history_at h.rings mount)
      (history_at now.rings mount) at.holds
      (others.rings.rings mount),
  text,
  steps,
  at.stands,
)
held_at c me h now opening j text steps (Rover account session) at long others =
    inside_on (caps c) h.book now.book me account at.inside others.book
