use Rattle.std.proofs.Common.{◌∙◌, true, refl, ap}
use Rattle.caster_replay.specs.Caster.{DesksValue}
use Rattle.caster_replay.proofs.DeskLemmas.{alone_here, speak_here, closes_here}
use Rattle.caster_replay.proofs.desks.Desks.close.Goals as goal

pub returns-clause-same : goal.returns-clause-same
returns-clause-same g c = record {
  rings = c.close.ensures.stay.at_rings.same.0 ∙ ap (λ (v : DesksValue). v.rings) c.self.view_is;
  book = c.close.ensures.stay.at_book.same.0 ∙ ap (λ (v : DesksValue). v.book) c.self.view_is;
  homes = c.close.ensures.stay.at_rings.same.4 ∙ ap (λ (v : DesksValue). v.homes) c.self.view_is;
}

pub returns-clause-closed : goal.returns-clause-closed
returns-clause-closed g c = λ config places.
    closes_here _ config _ c.args.self.now.seen _
    (alone_here g.P.Turns.alone (λ book. true) c.self.inside.places.rings.items c.self.inside.places.book
    g.met.P.RingPlace.is_alone refl)
    (ap (λ (v : DesksValue). v.seen) c.self.view_is) c.args.session c.args.last c.close.result
    (λ opening heading text steps histories sent. c.close.ensures.closed config opening heading text steps histories
    sent
    (ap (λ (v : DesksValue). v.rings) c.self.view_is ∙ places.rings)
    (ap (λ (v : DesksValue). v.book) c.self.view_is ∙ places.book))

pub close-requires-clause-rings : goal.close-requires-clause-rings
close-requires-clause-rings g c =
    speak_here g.P.Turns.speaks c.self.inside.places.rings.items c.args.session.me g.met.P.RingPlace.speaks_for_all
