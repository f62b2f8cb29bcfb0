-- A connection is opened, goes step by step, and is closed.
use Rattle.std.proofs.Common.{◌≡◌, ◌∙◌, true, false, refl, sym, subst}
use Rattle.session_core.specs.Beginnings.{worn_at}
use Rattle.session_model.specs.Called.{seen_at}
use Rattle.session_model.specs.declared.ending.Ending.{Ending}
use Rattle.caster_link.specs.Links.{opening_of}
use Rattle.caster_link.specs.Wear.{IsWornBy}
use Rattle.caster_link.proofs.PlaceLemmas.{fit_kept}
use Rattle.caster_link.proofs.WornLemmas.{not_ended, stay_both, stay_none}
use Rattle.caster_link.proofs.connection.serve_places.Goals as goal

pub returns-in-Err-clause-stay : goal.returns-in-Err-clause-stay
returns-in-Err-clause-stay g c = stay_none _ _

pub returns-in-Err-clause-served : goal.returns-in-Err-clause-served
returns-in-Err-clause-served g c =
    let t = g.T.Turns in let b = g.B.Turns in
    (c.in-Err.ensures.unopened.closed (seen_at t.seen b.seen c.args.places.now.rings.items c.args.places.now.book)
    (g.L.Link.told c.args.link.now)).served

pub returns-in-Err-clause-worn : goal.returns-in-Err-clause-worn
returns-in-Err-clause-worn g c =
    subst (λ (ending : Ending). IsWornBy (worn_at g.T.Turns.worn g.B.Turns.worn c.args.places.now.rings.items
    c.args.places.now.book) ending) (sym c.in-Err.ensures.unopened.ending) tt

pub returns-in-Err-clause-unsettled : goal.returns-in-Err-clause-unsettled
returns-in-Err-clause-unsettled g c = λ is.
    absurd (let clash : true ≡ false = sym c.in-Err.ensures.unopened.settled ∙ is in cc)

pub loop-init : goal.loop-init
loop-init g c =
    let t = g.T.Turns in let b = g.B.Turns in
    record {
      can = tt;
      finite = tt;
      stay = stay_none _ _;
      cause = not_ended (worn_at t.worn b.worn c.args.places.now.rings.items c.args.places.now.book)
          _ c.in-Ok.ensures.opened.goes_on;
      served = c.in-Ok.ensures.opened.served
          (seen_at t.seen b.seen c.args.places.now.rings.items c.args.places.now.book) (g.L.Link.told c.args.link.now);
    }

pub step-requires-clause-fit : goal.step-requires-clause-fit
step-requires-clause-fit g c =
    let kept = c.loop.invariant in
    fit_kept _ _ _ _ _ kept.served.serving.reached.caller kept.stay.known c.requires.fit

pub step-requires-clause-served : goal.step-requires-clause-served
step-requires-clause-served g c =
    let t = g.T.Turns in let b = g.B.Turns in (
      opening_of c.args.role,
      c.args.setup.now.me,
      seen_at t.seen b.seen c.args.places.now.rings.items c.args.places.now.book,
      g.L.Link.told c.args.link.now,
      c.loop.invariant.served,
    )

pub loop-preserved : goal.loop-preserved
loop-preserved g c =
    let t = g.T.Turns in let b = g.B.Turns in
    let kept = c.loop.invariant in
    record {
      can = tt;
      finite = tt;
      stay = stay_both _ _ _ _ _ _ kept.stay c.step.ensures.stay;
      cause = c.step.ensures.cause;
      served = c.in-None-step.ensures.goes_on.served (opening_of c.args.role) c.args.setup.now.me
          (seen_at t.seen b.seen c.args.places.now.rings.items c.args.places.now.book)
          (g.L.Link.told c.args.link.now) kept.served;
    }

pub close-requires-clause-came : goal.close-requires-clause-came
close-requires-clause-came g c =
    let t = g.T.Turns in let b = g.B.Turns in
    let start = seen_at t.seen b.seen c.args.places.now.rings.items c.args.places.now.book in
    let told = g.L.Link.told c.args.link.now in
    let kept = c.loop.invariant in
    let stay = stay_both _ _ _ _ _ _ kept.stay c.step.ensures.stay in
    record {
      config = c.args.setup.now.config.now;
      opening = opening_of c.args.role;
      me = c.args.setup.now.me;
      start = start;
      before = told;
      after = g.L.Link.told c.step.new.link;
      fit = fit_kept _ _ _ _ _ refl stay.known c.requires.fit;
      came = c.in-Some-step.ensures.closes.came (opening_of c.args.role) c.args.setup.now.me start told kept.served;
    }

pub returns-in-Some-step-clause-stay : goal.returns-in-Some-step-clause-stay
returns-in-Some-step-clause-stay g c =
    stay_both _ _ _ _ _ _ (stay_both _ _ _ _ _ _ c.loop.invariant.stay c.step.ensures.stay) c.close.ensures.stay

pub returns-in-Some-step-clause-served : goal.returns-in-Some-step-clause-served
returns-in-Some-step-clause-served g c =
    let t = g.T.Turns in let b = g.B.Turns in
    let start = seen_at t.seen b.seen c.args.places.now.rings.items c.args.places.now.book in
    let told = g.L.Link.told c.args.link.now in
    let kept = c.loop.invariant in
    let stay = stay_both _ _ _ _ _ _ kept.stay c.step.ensures.stay in
    (c.close.ensures.served c.args.setup.now.config.now (opening_of c.args.role) c.args.setup.now.me start told
    (g.L.Link.told c.step.new.link) (fit_kept _ _ _ _ _ refl stay.known c.requires.fit)
    (c.in-Some-step.ensures.closes.came (opening_of c.args.role) c.args.setup.now.me start told kept.served)).served
