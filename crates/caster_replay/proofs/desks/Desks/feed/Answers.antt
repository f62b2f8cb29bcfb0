use Rattle.std.proofs.Common.{◌∙◌, true, refl, ap}
use Rattle.caster_replay.specs.Caster.{DesksValue}
use Rattle.caster_replay.proofs.DeskLemmas.{alone_here, speak_here, feeds_here}
use Rattle.caster_replay.proofs.desks.Desks.feed.Goals as goal

pub returns-clause-same : goal.returns-clause-same
returns-clause-same g c = record {
  rings = c.feed.ensures.stay.at_rings.same.0 ∙ ap (λ (v : DesksValue). v.rings) c.self.view_is;
  book = c.feed.ensures.stay.at_book.same.0 ∙ ap (λ (v : DesksValue). v.book) c.self.view_is;
  homes = c.feed.ensures.stay.at_rings.same.4 ∙ ap (λ (v : DesksValue). v.homes) c.self.view_is;
}

pub returns-clause-fed : goal.returns-clause-fed
returns-clause-fed g c =
    feeds_here _ c.args.config.now _ c.args.self.now.seen _
    (alone_here g.P.Turns.alone (λ book. true) c.self.inside.places.rings.items c.self.inside.places.book
    g.met.P.RingPlace.is_alone refl)
    (ap (λ (v : DesksValue). v.seen) c.self.view_is) c.args.session.now c.feed.new.self c.args.bytes.now
    c.args.out.now.items c.feed.new.out.items c.feed.ensures.fed

pub feed-requires-clause-rings : goal.feed-requires-clause-rings
feed-requires-clause-rings g c =
    speak_here g.P.Turns.speaks c.self.inside.places.rings.items c.args.session.now.me g.met.P.RingPlace.speaks_for_all
