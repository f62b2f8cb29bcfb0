-- A turn is one event more.
use Rattle.std.proofs.Common.{◌∙◌, ap}
use Rattle.session_model.specs.Called.{alone_at, seen_at}
use Rattle.session_model.specs.Courses.{steps_of, text_of}
use Rattle.session_core.proofs.AskingLemmas.{asks_turned, tells_turned}
use Rattle.caster_link.proofs.CalledLemmas.{others_none}
use Rattle.caster_link.proofs.PlaceLemmas.{speak_by}
use Rattle.caster_link.proofs.ReachLemmas.{turned_arrived}
use Rattle.caster_link.proofs.WornLemmas.{stay_known}
use Rattle.caster_link.proofs.turning.take_turn.Goals as goal

pub turn-requires-clause-rings : goal.turn-requires-clause-rings
turn-requires-clause-rings g c =
    speak_by g.T.Turns.speaks c.args.places.now.rings.items c.args.session.now.me c.requires.ready.1.rings

pub turn-requires-clause-follows : goal.turn-requires-clause-follows
turn-requires-clause-follows g c =
    let ready = c.requires.ready in (ready.0, ready.1.shapes_fit, ready.1.caps_fit, ready.2)

pub returns-clause-holds : goal.returns-clause-holds
returns-clause-holds g c = c.turn.ensures.itself.holds

pub returns-clause-asks_still : goal.returns-clause-asks_still
returns-clause-asks_still g c =
    asks_turned _ _ c.turn.ensures.itself (λ apart. (c.turn.ensures.bystander apart).0)

pub returns-clause-stay : goal.returns-clause-stay
returns-clause-stay g c =
    stay_known g.T.Turns g.B.Turns c.args.places.now c.turn.new.places c.turn.ensures.stay

pub returns-clause-turned : goal.returns-clause-turned
returns-clause-turned g c = λ config opening me start sent whats fit reached.
    let t = g.T.Turns in let b = g.B.Turns in
    let items = c.args.places.now.rings.items in
    let book = c.args.places.now.book in
    let new = c.turn.new.places in
    let now = seen_at t.seen b.seen items book in
    turned_arrived config opening me (alone_at t.alone b.alone items book) start now
    (seen_at t.seen b.seen new.rings.items new.book) c.args.session.now c.turn.new.self sent
    c.args.out.now.items c.turn.new.out.items whats reached c.requires.goes_on c.turn.ensures.itself.me
    (tells_turned _ _ opening (text_of whats) c.requires.goes_on c.turn.ensures.itself
    (λ apart. (c.turn.ensures.bystander apart).0) reached.asks)
    (λ apart. let s = c.turn.ensures.bystander apart in (
      s.0,
      ap (λ l. seen_at t.seen b.seen l new.book) s.1 ∙ ap (λ k. seen_at t.seen b.seen items k) s.2,
      s.3,
    ))
    (λ is. c.turn.ensures.turned is config opening (text_of whats) (steps_of reached.events) now sent
    fit.shapes_fit fit.caps_fit reached.stands (others_none now c.args.session.now.me))
