-- A connection is opened, goes step by step, and is closed; what it holds is told.
use Rattle.std.proofs.Common.{◌≡◌, ◌∙◌, Option, None, true, false, refl, sym, ap, subst}
use Rattle.std.specs.Prelude.{is_some}
use Rattle.session_core.specs.declared.asked.Asked.{Asked}
use Rattle.session_core.specs.declared.held.Held.{Held}
use Rattle.session_core.specs.declared.session.Session.{Session}
use Rattle.session_core.specs.Asking.{AsksOn}
use Rattle.session_core.specs.Beginnings.{worn_at}
use Rattle.session_core.specs.Holding.{HoldsOn, IsHolding}
use Rattle.session_core.specs.States.{session_holding}
use Rattle.session_model.specs.Called.{seen_at}
use Rattle.session_model.specs.declared.ending.Ending.{Ending}
use Rattle.caster_link.specs.Links.{opening_of}
use Rattle.caster_link.specs.Wear.{IsWornBy}
use Rattle.caster_link.proofs.PlaceLemmas.{fit_kept}
use Rattle.caster_link.proofs.WornLemmas.{not_ended, stay_both, stay_none}
use Rattle.caster_press.proofs.PlaceLemmas.{same_as_it_is, same_then}
use Rattle.keep_lines.specs.Puts.{HasTold}
use Rattle.keep_lines.proofs.PutLemmas.{told_none}
use Rattle.caster_keep.specs.Links.{told_lines}
use Rattle.caster_keep.proofs.KeepLemmas.{closed_as}
use Rattle.caster_keep.proofs.one_link.serve_steps.Goals as goal

pub returns-in-Err-clause-stay : goal.returns-in-Err-clause-stay
returns-in-Err-clause-stay g c = stay_none _ _

pub returns-in-Err-clause-closed : goal.returns-in-Err-clause-closed
returns-in-Err-clause-closed g c =
    let t = g.T.Turns in let b = g.B.Turns in (
      None,
      c.in-Err.ensures.unopened.closed (seen_at t.seen b.seen c.args.places.now.rings.items c.args.places.now.book)
          (g.L.Link.told c.args.link.now),
      told_none c.args.teller.by _ _ refl,
    )

pub returns-in-Err-clause-worn : goal.returns-in-Err-clause-worn
returns-in-Err-clause-worn g c =
    subst (λ (ending : Ending). IsWornBy (worn_at g.T.Turns.worn g.B.Turns.worn c.args.places.now.rings.items
    c.args.places.now.book) ending) (sym c.in-Err.ensures.unopened.ending) tt

pub returns-in-Err-clause-unsettled : goal.returns-in-Err-clause-unsettled
returns-in-Err-clause-unsettled g c = λ is.
    absurd (let clash : true ≡ false = sym c.in-Err.ensures.unopened.settled ∙ is in cc)

pub loop-init : goal.loop-init
loop-init g c =
    let t = g.T.Turns in let b = g.B.Turns in
    record {
      can = tt;
      finite = tt;
      stay = stay_none _ _;
      cause = not_ended (worn_at t.worn b.worn c.args.places.now.rings.items c.args.places.now.book)
          _ c.in-Ok.ensures.opened.goes_on;
      served = c.in-Ok.ensures.opened.served
          (seen_at t.seen b.seen c.args.places.now.rings.items c.args.places.now.book) (g.L.Link.told c.args.link.now);
      same = same_as_it_is _;
      holds = tt;
      asked = None;
      is_asked = refl;
      asks = tt;
      still = λ holding. absurd holding;
      put = told_none c.args.teller.by _ _ refl;
    }

pub step-requires-clause-fit : goal.step-requires-clause-fit
step-requires-clause-fit g c =
    let kept = c.loop.invariant in
    fit_kept _ _ _ _ _ kept.served.serving.reached.caller kept.stay.known c.requires.fit

pub step-requires-clause-served : goal.step-requires-clause-served
step-requires-clause-served g c =
    let t = g.T.Turns in let b = g.B.Turns in (
      opening_of c.args.role,
      c.args.setup.now.me,
      seen_at t.seen b.seen c.args.places.now.rings.items c.args.places.now.book,
      g.L.Link.told c.args.link.now,
      c.loop.invariant.served,
    )

pub loop-preserved : goal.loop-preserved
loop-preserved g c =
    let t = g.T.Turns in let b = g.B.Turns in
    let kept = c.loop.invariant in
    let it : c.session.result.now ≡ c.loop.service.session = c.session.ensures in
    let tells = c.tell_session-told.ensures in
    let same : c.tell_session-told.result.held ≡ session_holding c.loop.service.session =
    tells.held ∙ ap session_holding it in
    let goes_on = c.in_default.ensures.goes_on in
    let start = seen_at t.seen b.seen c.args.places.now.rings.items c.args.places.now.book in
    let told = g.L.Link.told c.args.link.now in
    record {
      can = tt;
      finite = tt;
      stay = stay_both _ _ _ _ _ _ kept.stay c.step.ensures.stay;
      cause = c.step.ensures.cause;
      served = goes_on.served (opening_of c.args.role) c.args.setup.now.me start told kept.served;
      same = same_then _ _ _ kept.same tells.same;
      holds = subst (λ (held : Held). HoldsOn held (session_holding c.step.new.self.session)) (sym same) goes_on.holds;
      asked = c.loop.service.session.asked;
      is_asked = tells.asked ∙ ap (λ (s : Session). is_some s.asked) it;
      asks = goes_on.asks (opening_of c.args.role) c.args.setup.now.me start told kept.served;
      still = λ holding. goes_on.asks_still (subst IsHolding same holding);
      put = subst (λ (asked : Option Asked). HasTold c.args.teller.by
          (told_lines c.args.setup.now.config.now c.args.teller.number asked c.tell_session-told.result.held)
          (g.P.AtPress.told c.args.place.now).seen (g.P.AtPress.told c.tell_session-told.new.place).seen)
          (ap (λ (s : Session). s.asked) it)
          (tells.put kept.asked _ kept.is_asked
          (subst (λ (s : Session). AsksOn kept.asked s.asked) (sym it) kept.asks)
          (subst (λ (s : Session). HoldsOn c.loop.told.held (session_holding s)) (sym it) kept.holds)
          (λ holding. ap (λ (s : Session). s.asked) it ∙ kept.still holding) kept.put);
    }

pub close-receipt-requires-clause-came : goal.close-receipt-requires-clause-came
close-receipt-requires-clause-came g c =
    let t = g.T.Turns in let b = g.B.Turns in
    let start = seen_at t.seen b.seen c.args.places.now.rings.items c.args.places.now.book in
    let told = g.L.Link.told c.args.link.now in
    let kept = c.loop.invariant in
    let stay = stay_both _ _ _ _ _ _ kept.stay c.step.ensures.stay in
    record {
      config = c.args.setup.now.config.now;
      opening = opening_of c.args.role;
      me = c.args.setup.now.me;
      start = start;
      before = told;
      after = g.L.Link.told c.step.new.link;
      fit = fit_kept _ _ _ _ _ refl stay.known c.requires.fit;
      came = c.in-Some-step.ensures.closes.came (opening_of c.args.role) c.args.setup.now.me start told kept.served;
    }

pub returns-in-Some-step-clause-stay : goal.returns-in-Some-step-clause-stay
returns-in-Some-step-clause-stay g c =
    stay_both _ _ _ _ _ _ (stay_both _ _ _ _ _ _ c.loop.invariant.stay c.step.ensures.stay) c.close-receipt.ensures.stay

pub returns-in-Some-step-clause-closed : goal.returns-in-Some-step-clause-closed
returns-in-Some-step-clause-closed g c =
    let t = g.T.Turns in let b = g.B.Turns in
    let start = seen_at t.seen b.seen c.args.places.now.rings.items c.args.places.now.book in
    let told = g.L.Link.told c.args.link.now in
    let kept = c.loop.invariant in
    let it : c.session.result.now ≡ c.loop.service.session = c.session.ensures in
    let tells = c.tell_session-told.ensures in
    let stay = stay_both _ _ _ _ _ _ kept.stay c.step.ensures.stay in
    let closes = c.in-Some-step.ensures.closes in (
      c.step.new.self.session.asked,
      closed_as (session_holding c.step.new.self.session) c.tell_session-told.result.held
          (ap session_holding (closes.still ∙ sym it) ∙ sym tells.held)
          (c.close-receipt.ensures.served c.args.setup.now.config.now (opening_of c.args.role) c.args.setup.now.me start told
          (g.L.Link.told c.step.new.link) (fit_kept _ _ _ _ _ refl stay.known c.requires.fit)
          (closes.came (opening_of c.args.role) c.args.setup.now.me start told kept.served)),
      subst (λ (asked : Option Asked). HasTold c.args.teller.by
          (told_lines c.args.setup.now.config.now c.args.teller.number asked c.tell_session-told.result.held)
          (g.P.AtPress.told c.args.place.now).seen (g.P.AtPress.told c.tell_session-told.new.place).seen)
          (ap (λ (s : Session). s.asked) (it ∙ sym closes.still))
          (tells.put kept.asked _ kept.is_asked
          (subst (λ (s : Session). AsksOn kept.asked s.asked) (sym it) kept.asks)
          (subst (λ (s : Session). HoldsOn c.loop.told.held (session_holding s)) (sym it) kept.holds)
          (λ holding. ap (λ (s : Session). s.asked) it ∙ kept.still holding) kept.put),
    )
