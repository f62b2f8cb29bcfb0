use Rattle.std.proofs.Common.{ℕ, Bool, List, [], ◌∷◌, ◌++◌, ap, subst, sym}
use Rattle.mount_ring.specs.declared.RingCall.TheVariants.{Claim}
use Rattle.mount_ring.specs.declared.RingAnswer.TheVariants.{Given}
use Rattle.mount_ring.specs.declared.RingShape.{RingShape}
use Rattle.session_calls.specs.Steps.{Step, at_ring}
use Rattle.source_session.specs.declared.session.SourceSession.{SourceSession}
use Rattle.source_session.specs.Calls.{IsHolding}
use Rattle.source_session.specs.Places.{ring_answer}
use Rattle.source_session.specs.Standing.{IsUnfed}
use Rattle.source_session.proofs.HeldLemmas.{held_here}
use Rattle.source_session.proofs.TakenLemmas.{stays_both, if_none}
use Rattle.upstream_relay.specs.declared.body.RelayStage.TheVariants.{Body}
use Rattle.upstream_relay.specs.Standing.{StandsAt}
use Rattle.upstream_relay.proofs.StageLemmas.{claim_stands, adds_unclaimed_as, adds_behind, adds_again}
use Rattle.upstream_relay.proofs.body.begin.Goals as goal

-- the same of the session's own caller
as_own : (s : SourceSession) (me : ℕ) (chunked : Bool) → IsUnfed s me chunked → IsUnfed s s.me chunked
as_own s me chunked x = subst (λ (m : ℕ). IsUnfed s m chunked) (sym x.caller) x

pub feed_body-fed-requires-clause-held : goal.feed_body-fed-requires-clause-held
feed_body-fed-requires-clause-held g c =
    let source = c.in-Ok.source in
    if_none source.halt
    (held_here source.me source.claim (g.T.Turns.seen c.claim.new.place)
    (subst (λ (m : ℕ). IsHolding m source.claim (g.T.Turns.seen c.claim.new.place)) (sym c.in-Ok.ensures.begins.caller)
    c.in-Ok.ensures.holds))

pub feed_body-fed-requires-clause-few : goal.feed_body-fed-requires-clause-few
feed_body-fed-requires-clause-few g c =
    let source = c.in-Ok.source in
    let head = c.requires.accepted in (
      0,
      head.0,
      at_ring 0 Claim (Given source.claim) ∷ [],
      claim_stands 0 source.me c.args.chunked source head.0 head.1 (as_own _ _ _ c.in-Ok.ensures.begins),
      head.2,
    )

pub returns-in-Err-clause-adds : goal.returns-in-Err-clause-adds
returns-in-Err-clause-adds g c = λ mount head says.
    adds_unclaimed_as _ _ c.args.me mount c.in-Err.fault c.from-halt.result c.args.chunked head c.args.body.now _ _
    c.from-halt.ensures says c.in-Err.ensures.unclaimed

pub returns-in-Ok-clause-adds : goal.returns-in-Ok-clause-adds
returns-in-Ok-clause-adds g c = λ mount head says.
    let source = c.in-Ok.source in
    let new = c.feed_body-fed.new.source in
    let claimed : Step = at_ring mount Claim (Given source.claim) in
    adds_behind _ _ c.args.me mount _ _ _ Claim (Given source.claim)
    (StandsAt mount c.args.me (Body new) (head ++ c.args.body.now)) c.in-Ok.ensures.given
    (adds_again _ _ c.args.me mount _ _ source.me _ _
    (λ (m : ℕ) (steps : List Step). StandsAt mount m (Body new) (head ++ c.args.body.now) (claimed ∷ steps))
    c.claim.ensures.stays.same.3 (ap (λ (shape : RingShape). ring_answer shape) c.claim.ensures.stays.same.0)
    c.in-Ok.ensures.begins.caller
    (c.feed_body-fed.ensures.adds mount head (claimed ∷ [])
    (claim_stands mount source.me c.args.chunked source head says (as_own _ _ _ c.in-Ok.ensures.begins))))

pub returns-in-Ok-clause-stays : goal.returns-in-Ok-clause-stays
returns-in-Ok-clause-stays g c = stays_both g.T.Turns _ _ _ c.claim.ensures.stays c.feed_body-fed.ensures.stays
