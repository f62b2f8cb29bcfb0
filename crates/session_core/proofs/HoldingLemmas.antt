-- A session holds what its connection came to, and what it holds stays.
use Rattle.std.proofs.Common.{◌≡◌, ◌∙◌, ℕ, false, List, [], ◌++◌, refl, sym, ap, subst, inl, inr, Option, None, Some}
use Rattle.std.specs.Prelude.{IfSome}
use Rattle.mount_ring.specs.declared.call.RingAnswer.TheVariants as rings
use Rattle.cast_config.specs.declared.config.Config.{Config}
use Rattle.session_calls.specs.Steps.{Answer, Step, of_ring}
use Rattle.source_session.specs.declared.session.SourceSession.{SourceSession}
use Rattle.ntrip_client.specs.declared.answer.Answer.TheVariants as heads
use Rattle.upstream_relay.specs.declared.body.RelayStage.{RelayStage}
use Rattle.upstream_relay.specs.declared.body.RelayStage.TheVariants as relays
use Rattle.upstream_relay.specs.declared.session.RelaySession.{RelaySession}
use Rattle.upstream_relay.specs.Standing.{StandsAt, claim_at, is_short_at}
use Rattle.rover_session.specs.declared.session.RoverSession.{RoverSession}
use Rattle.session_model.specs.Headings.{Heading}
use Rattle.session_model.specs.Judged.{Opening, SourceTerms, judged, source}
use Rattle.session_model.specs.Owed.{Came, came_by, came_to, first_answer}
use Rattle.session_model.specs.Reports.{IsHeadingOf}
use Rattle.session_model.specs.Run.{Histories}
use Rattle.session_model.proofs.LawLemmas.{one_of}
use Rattle.session_core.specs.declared.held.Held.{Held}
use Rattle.session_core.specs.declared.held.Held.TheVariants as holds
use Rattle.session_core.specs.declared.session.Session.{Session}
use Rattle.session_core.specs.declared.session_stage.SessionStage.{SessionStage}
use Rattle.session_core.specs.declared.session_stage.SessionStage.TheVariants.{Head, Over, Source, Relay, Rover}
use Rattle.session_core.specs.Standing.{IsAtStage, IsFree, StandsFor}
use Rattle.session_core.specs.Holding.{HoldsAs, HoldsClaimIf, HoldsOn}
use Rattle.session_core.specs.States.{holding_at, session_holding}
use Rattle.session_core.proofs.ClosingLemmas.{IsCameBy, IsFreeWith, claimed_received, halted_free, none_made, uncalled_free}
use Rattle.session_core.proofs.FeedSourceLemmas.{received_more}
use Rattle.session_core.proofs.ReceiptLemmas.{source_holds, relay_at, rover_inside}

claimed_if : (mount : ℕ) (text : List ℕ) (claim : Option ℕ) (came : Came) → IsCameBy mount text claim came
    → HoldsClaimIf mount claim came
claimed_if mount text None came is = is
claimed_if mount text (Some claim) came is = (_, _, is.3, refl)

holds_at : (c : Config) (me : ℕ) (h : Histories) (o : Opening) (heading : Heading) (text : List ℕ)
    (steps : List Step) (stage : SessionStage) → IsHeadingOf (Some o) text heading
    → IsAtStage c me h o (judged c o heading text) text steps stage
    → HoldsAs c o (came_to (judged c o heading text) steps) (holding_at stage)
holds_at c me h o heading text steps (Head head) is at = uncalled_free steps at.2 (judged c o heading text)
holds_at c me h o heading text steps Over is at = at.free
holds_at c me h o heading text steps (Source mount session) is at =
    (at.terms, at.body, source_holds c me h (judged c o heading text) steps mount session at, at.mount_is)
holds_at c me h o heading text steps (Relay mount session) is at = (
  at.number,
  at.opens,
  at.mount_is,
  claimed_if mount text (claim_at session.stage) _ (relay_at c me h o heading text steps mount session is at),
)
holds_at c me h o heading text steps (Rover account session) is at =
    (at.terms, rover_inside c me h (judged c o heading text) steps account session at, at.account_is)

pub holds_so : (c : Config) (session : Session) (o : Opening) (heading : Heading) (text : List ℕ)
    (steps : List Step) (h : Histories) (sent : List ℕ) → IsHeadingOf (Some o) text heading
    → StandsFor c session o text steps h sent
    → HoldsAs c o (came_to (judged c o heading text) steps) (session_holding session)
holds_so c session o heading text steps h sent is (inl stands) =
    subst (λ (said : Heading). HoldsAs c o (came_to (judged c o said text) steps) (session_holding session))
    (one_of (Some o) text stands.heading heading stands.is_heading is)
    (holds_at c session.me h o stands.heading text steps session.stage stands.is_heading stands.stage)
holds_so c session o heading text steps h sent is (inr lost) =
    subst (λ (stage : SessionStage). HoldsAs c o (came_to (judged c o heading text) steps) (holding_at stage))
    (sym lost.stage) (uncalled_free steps lost.uncalled (judged c o heading text))

-- ---- what is held stays

-- a relay that had a claim has it still
claim_on : (first second third : Option ℕ) → IfSome first (λ number. second ≡ Some number)
    → IfSome second (λ number. third ≡ Some number) → IfSome first (λ number. third ≡ Some number)
claim_on None second third had has = tt
claim_on (Some claim) second third had has =
    subst (λ (given : Option ℕ). IfSome given (λ number. third ≡ Some number)) had has

pub holds_both : (first second third : Held) → HoldsOn first second → HoldsOn second third → HoldsOn first third
holds_both holds.Nothing second third had has = tt
holds_both (holds.Rover account) second third had has = subst (λ (held : Held). HoldsOn held third) had has
holds_both (holds.Source mount claim) second third had has = subst (λ (held : Held). HoldsOn held third) had has
holds_both (holds.Relay mount claim) second third had has =
    let on = subst (λ (held : Held). HoldsOn held third) had.1 has in
    (on.0, on.1, claim_on claim had.0 on.0 had.2 on.2)

pub source_on : (session : Session) (mount : ℕ) (inner fed : SourceSession) → session.stage ≡ Source mount inner
    → fed.claim ≡ inner.claim → HoldsOn (session_holding session) (holding_at (Source mount fed))
source_on session mount inner fed is same =
    subst (λ (stage : SessionStage). HoldsOn (holding_at stage) (holding_at (Source mount fed))) (sym is)
    (ap (holds.Source mount) same)

pub rover_on : (stage : SessionStage) (account : ℕ) (inner fed : RoverSession) → stage ≡ Rover account inner
    → HoldsOn (holding_at stage) (holding_at (Rover account fed))
rover_on stage account inner fed is =
    subst (λ (was : SessionStage). HoldsOn (holding_at was) (holding_at (Rover account fed))) (sym is) refl

-- what was given a claim holds something
never_free : (steps : List Step) (claim : ℕ) → first_answer steps ≡ Some (of_ring (rings.Given claim))
    → IsFreeWith steps → ⊥
never_free steps claim given free =
    let terms : SourceTerms = record { version = None; mount = 0; chunked = false } in
    subst (λ (first : Option Answer). IsFree (came_by (source terms []) first)) given (free (source terms []))

-- a relay whose first call was answered by a claim has that claim
given_here : (mount me claim : ℕ) (stage : RelayStage) (text : List ℕ) (steps : List Step)
    → first_answer steps ≡ Some (of_ring (rings.Given claim)) → StandsAt mount me stage text steps
    → claim_at stage ≡ Some claim
given_here mount me claim (relays.Head head cutter) text steps given stands =
    absurd (never_free steps claim given
    (none_made mount false stands.answer heads.Open text steps refl stands.at_stage.1 stands.made))
given_here mount me claim (relays.Halted halt) text steps given stands =
    absurd (never_free steps claim given
    (halted_free mount stands.answer text steps halt (is_short_at (relays.Halted halt)) stands.made stands.at_stage))
given_here mount me claim (relays.Body session) text steps given stands =
    let both : Some (of_ring (rings.Given session.claim)) ≡ Some (of_ring (rings.Given claim)) =
    sym (claimed_received mount session.claim steps stands.at_stage.claimed) ∙ given in cc

pub relay_on : (session : Session) (mount me later : ℕ) (inner fed : RelaySession) (text bytes : List ℕ)
    (steps more : List Step) → session.stage ≡ Relay mount inner → StandsAt mount me inner.stage text steps
    → StandsAt mount later fed.stage bytes (steps ++ more)
    → HoldsOn (session_holding session) (holding_at (Relay mount fed))
relay_on session mount me later inner fed text bytes steps more is stands on =
    subst (λ (stage : SessionStage). HoldsOn (holding_at stage) (holding_at (Relay mount fed))) (sym is)
    (claim_at fed.stage, refl, kept inner.stage stands) where
      kept : (stage : RelayStage) → StandsAt mount me stage text steps
          → IfSome (claim_at stage) (λ number. claim_at fed.stage ≡ Some number)
      kept (relays.Head head cutter) x = tt
      kept (relays.Halted halt) x = tt
      kept (relays.Body body) x =
          given_here mount later body.claim fed.stage bytes (steps ++ more)
          (received_more steps more _ (claimed_received mount body.claim steps x.at_stage.claimed)) on
