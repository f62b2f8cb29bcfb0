-- By stage. Where a claim is given back, one ring is picked.
use Rattle.std.proofs.Common.{◌∙◌, ℕ, Option, List, [], ◌∷◌, map, set, sym, ap, subst}
use Rattle.std.specs.Prelude.{IfSome}
use Rattle.std.proofs.lemmas.Result.{on_ok_weaker, on_err_weaker, MatchResult-weaker}
use Rattle.turn_log.specs.History.{History}
use Rattle.turn_log.specs.Heard.{Heard}
use Rattle.turn_log.specs.declared.place.TurnFault.{TurnFault}
use Rattle.mount_ring.specs.declared.call.RingCall.{RingCall}
use Rattle.mount_ring.specs.declared.call.RingCall.TheVariants.{Release}
use Rattle.mount_ring.specs.declared.call.RingAnswer.TheVariants.{Released}
use Rattle.session_calls.specs.Rings.{all_alone}
use Rattle.session_calls.proofs.PlaceLemmas.{ring_answer}
use Rattle.rover_session.specs.Made.{sent_in, overrun_in}
use Rattle.session_core.specs.Places.{alone_in, seen_in}
use Rattle.session_core.specs.Closing.{IsHeldBy, closing_at, releasing}
use Rattle.session_core.proofs.CloseLemmas.{makes_none, makes_release, makes_leave}
use Rattle.session_core.proofs.CloseLawLemmas.{refused_ring, refused_book}
use Rattle.session_core.proofs.PickLemmas.{among_rings, kept_picked, refused_picked, stay_picked, stays_still, went_picked}
use Rattle.session_core.proofs.settle.settle.Goals as goal

pub returns-in-Head-clause-settled : goal.returns-in-Head-clause-settled
returns-in-Head-clause-settled g c = λ config shaped capped.
    makes_none config (alone_in g.T.Turns g.B.Turns c.args.places.now) (seen_in g.T.Turns g.B.Turns c.args.places.now)
    c.args.me (closing_at c.args.stage.now) (ap closing_at c.in-Head.is)

pub returns-in-Over-clause-settled : goal.returns-in-Over-clause-settled
returns-in-Over-clause-settled g c = λ config shaped capped.
    makes_none config (alone_in g.T.Turns g.B.Turns c.args.places.now) (seen_in g.T.Turns g.B.Turns c.args.places.now)
    c.args.me (closing_at c.args.stage.now) (ap closing_at c.in-Over.is)

-- ---- a source

pub returns-in-Source-clause-stay : goal.returns-in-Source-clause-stay
returns-in-Source-clause-stay g c = record {
  at_rings = stay_picked g.T.Turns c.args.places.now.rings.items c.in-Source.mount c.index_mut.result.now
      c.release.new.place c.index_mut.ensures.value c.release.ensures.stays;
  at_book = stays_still g.B.Turns c.args.places.now.book;
}

pub returns-in-Source-clause-settled : goal.returns-in-Source-clause-settled
returns-in-Source-clause-settled g c =
    let rings = c.args.places.now.rings.items in
    let held = subst (IsHeldBy (g.B.Turns.shape c.args.places.now.book) c.args.me
    (seen_in g.T.Turns g.B.Turns c.args.places.now)) c.in-Source.is c.requires.held in
    on_ok_weaker c.release.result
    (λ heard config shaped capped.
    makes_release config (all_alone g.T.Turns.alone rings) (g.B.Turns.alone c.args.places.now.book)
    (map g.T.Turns.shape rings) (map g.T.Turns.seen rings)
    (map g.T.Turns.seen (set rings c.in-Source.mount c.release.new.place))
    (g.B.Turns.seen c.args.places.now.book) c.in-Source.session.me c.args.me c.in-Source.mount c.in-Source.session.claim
    (closing_at c.args.stage.now) shaped held.0 (ap closing_at c.in-Source.is)
    (went_picked g.T.Turns rings c.in-Source.mount c.index_mut.result.now c.release.new.place c.in-Source.session.me
    (Release c.in-Source.session.claim) Released (among_rings g.T.Turns.seen rings c.in-Source.mount held.1)
    c.index_mut.ensures.value heard)) c.release.ensures.released

pub returns-in-Source-clause-refused : goal.returns-in-Source-clause-refused
returns-in-Source-clause-refused g c =
    on_err_weaker c.release.result
    (λ same. ap (λ (seen : List (History RingCall)). record { rings = seen; book = g.B.Turns.seen c.args.places.now.book })
    (kept_picked g.T.Turns c.args.places.now.rings.items c.in-Source.mount c.index_mut.result.now c.release.new.place
    c.index_mut.ensures.value same)) c.release.ensures.refused

pub returns-in-Source-clause-cause : goal.returns-in-Source-clause-cause
returns-in-Source-clause-cause g c =
    let rings = c.args.places.now.rings.items in
    let held = subst (IsHeldBy (g.B.Turns.shape c.args.places.now.book) c.args.me
    (seen_in g.T.Turns g.B.Turns c.args.places.now)) c.in-Source.is c.requires.held in
    MatchResult-weaker c.release.result c.release.ensures.fault (λ done any. any)
    (λ (fault : TurnFault) is. refused_ring (map g.T.Turns.may_lack rings)
    (g.B.Turns.may_lack c.args.places.now.book)
    (map g.T.Turns.worn (set rings c.in-Source.mount c.release.new.place))
    (g.B.Turns.worn c.args.places.now.book) fault
    (refused_picked g.T.Turns rings c.in-Source.mount c.index_mut.result.now c.release.new.place fault
    (among_rings g.T.Turns.seen rings c.in-Source.mount held.1) c.index_mut.ensures.value is))

-- ---- a relay

pub returns-in-None-clause-settled : goal.returns-in-None-clause-settled
returns-in-None-clause-settled g c = λ config shaped capped.
    makes_none config (alone_in g.T.Turns g.B.Turns c.args.places.now) (seen_in g.T.Turns g.B.Turns c.args.places.now)
    c.args.me (closing_at c.args.stage.now)
    (ap closing_at c.in-Relay.is ∙ ap (releasing c.in-Relay.mount) (sym c.claim_number.ensures ∙ c.in-None.is))

pub returns-in-Some-clause-stay : goal.returns-in-Some-clause-stay
returns-in-Some-clause-stay g c = record {
  at_rings = stay_picked g.T.Turns c.args.places.now.rings.items c.in-Relay.mount c.index_mut-in-Some.result.now
      c.release-in-Some.new.place c.index_mut-in-Some.ensures.value c.release-in-Some.ensures.stays;
  at_book = stays_still g.B.Turns c.args.places.now.book;
}

pub returns-in-Some-clause-settled : goal.returns-in-Some-clause-settled
returns-in-Some-clause-settled g c =
    let rings = c.args.places.now.rings.items in
    let before = c.index_mut-in-Some.result.now in
    let new = c.release-in-Some.new.place in
    let held = subst (IsHeldBy (g.B.Turns.shape c.args.places.now.book) c.args.me
    (seen_in g.T.Turns g.B.Turns c.args.places.now)) c.in-Relay.is c.requires.held in
    let given = sym c.claim_number.ensures ∙ c.in-Some.is in
    on_ok_weaker c.release-in-Some.result
    (λ told config shaped capped.
    makes_release config (all_alone g.T.Turns.alone rings) (g.B.Turns.alone c.args.places.now.book)
    (map g.T.Turns.shape rings) (map g.T.Turns.seen rings)
    (map g.T.Turns.seen (set rings c.in-Relay.mount new))
    (g.B.Turns.seen c.args.places.now.book) c.in-Relay.session.me c.args.me c.in-Relay.mount c.in-Some.field-0
    (closing_at c.args.stage.now) shaped held.0 (ap closing_at c.in-Relay.is ∙ ap (releasing c.in-Relay.mount) given)
    (went_picked g.T.Turns rings c.in-Relay.mount before new c.in-Relay.session.me
    (Release c.in-Some.field-0) Released (among_rings g.T.Turns.seen rings c.in-Relay.mount held.1)
    c.index_mut-in-Some.ensures.value
    (subst (λ (claim : Option ℕ). IfSome claim (λ n. Heard (g.T.Turns.alone before)
    (ring_answer (g.T.Turns.shape before)) (g.T.Turns.seen before) (g.T.Turns.seen new) c.in-Relay.session.me
    ((Release n, Released) ∷ []))) given told))) c.release-in-Some.ensures.released

pub returns-in-Some-clause-refused : goal.returns-in-Some-clause-refused
returns-in-Some-clause-refused g c =
    on_err_weaker c.release-in-Some.result
    (λ same. ap (λ (seen : List (History RingCall)). record { rings = seen; book = g.B.Turns.seen c.args.places.now.book })
    (kept_picked g.T.Turns c.args.places.now.rings.items c.in-Relay.mount c.index_mut-in-Some.result.now
    c.release-in-Some.new.place c.index_mut-in-Some.ensures.value same)) c.release-in-Some.ensures.refused

pub returns-in-Some-clause-cause : goal.returns-in-Some-clause-cause
returns-in-Some-clause-cause g c =
    let rings = c.args.places.now.rings.items in
    let held = subst (IsHeldBy (g.B.Turns.shape c.args.places.now.book) c.args.me
    (seen_in g.T.Turns g.B.Turns c.args.places.now)) c.in-Relay.is c.requires.held in
    MatchResult-weaker c.release-in-Some.result c.release-in-Some.ensures.fault (λ done any. any)
    (λ (fault : TurnFault) is. refused_ring (map g.T.Turns.may_lack rings)
    (g.B.Turns.may_lack c.args.places.now.book)
    (map g.T.Turns.worn (set rings c.in-Relay.mount c.release-in-Some.new.place))
    (g.B.Turns.worn c.args.places.now.book) fault
    (refused_picked g.T.Turns rings c.in-Relay.mount c.index_mut-in-Some.result.now c.release-in-Some.new.place fault
    (among_rings g.T.Turns.seen rings c.in-Relay.mount held.1) c.index_mut-in-Some.ensures.value is))

-- ---- a rover

pub returns-in-Rover-clause-settled : goal.returns-in-Rover-clause-settled
returns-in-Rover-clause-settled g c =
    on_ok_weaker c.leave.result
    (λ heard config shaped capped.
    makes_leave config (all_alone g.T.Turns.alone c.args.places.now.rings.items)
    (g.B.Turns.alone c.args.places.now.book)
    (g.B.Turns.shape c.args.places.now.book) (map g.T.Turns.seen c.args.places.now.rings.items)
    (g.B.Turns.seen c.args.places.now.book)
    (g.B.Turns.seen c.leave.new.book) c.args.me c.in-Rover.account
    (sent_in c.in-Rover.session.segments) (overrun_in c.in-Rover.session.segments)
    (closing_at c.args.stage.now) capped (ap closing_at c.in-Rover.is)
    (rw (sym c.sent-sent.ensures) (rw (sym c.overrun.ensures) heard))) c.leave.ensures.heard

pub returns-in-Rover-clause-cause : goal.returns-in-Rover-clause-cause
returns-in-Rover-clause-cause g c =
    MatchResult-weaker c.leave.result c.leave.ensures.fault (λ done any. any)
    (λ (fault : TurnFault) is. refused_book (map g.T.Turns.may_lack c.args.places.now.rings.items)
    (g.B.Turns.may_lack c.args.places.now.book) (map g.T.Turns.worn c.args.places.now.rings.items)
    (g.B.Turns.worn c.leave.new.book) fault is)
