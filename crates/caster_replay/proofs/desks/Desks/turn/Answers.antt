use Rattle.std.proofs.Common.{◌∙◌, true, refl, ap}
use Rattle.turn_log.specs.Past.{so_far}
use Rattle.caster_replay.specs.Caster.{DesksValue}
use Rattle.caster_replay.proofs.DeskLemmas.{alone_here, speak_here, turns_here, seen_same}
use Rattle.caster_replay.proofs.desks.Desks.turn.Goals as goal

pub returns-clause-same : goal.returns-clause-same
returns-clause-same g c = record {
  rings = c.turn.ensures.stay.at_rings.same.0 ∙ ap (λ (v : DesksValue). v.rings) c.self.view_is;
  book = c.turn.ensures.stay.at_book.same.0 ∙ ap (λ (v : DesksValue). v.book) c.self.view_is;
  homes = c.turn.ensures.stay.at_rings.same.4 ∙ ap (λ (v : DesksValue). v.homes) c.self.view_is;
}

pub returns-clause-turned : goal.returns-clause-turned
returns-clause-turned g c = λ config places.
    turns_here _ config _ c.args.self.now.seen _
    (alone_here g.P.Turns.alone (λ book. true) c.self.inside.places.rings.items c.self.inside.places.book
    g.met.P.RingPlace.is_alone refl)
    (ap (λ (v : DesksValue). v.seen) c.self.view_is) c.args.session.now c.turn.new.self c.args.budget
    c.args.out.now.items c.turn.new.out.items
    (λ rover opening so_far steps histories sent. c.turn.ensures.turned rover config opening so_far steps histories sent
    (ap (λ (v : DesksValue). v.rings) c.self.view_is ∙ places.rings)
    (ap (λ (v : DesksValue). v.book) c.self.view_is ∙ places.book))
    (λ apart. let same = c.turn.ensures.bystander apart in (
      same.0,
      seen_same c.self.inside.places.rings.items c.turn.new.places.rings.items c.self.inside.places.book
          c.turn.new.places.book g.P.Turns.seen (λ desk. so_far desk.past) same.1 same.2,
      same.3,
    ))

pub turn-requires-clause-rings : goal.turn-requires-clause-rings
turn-requires-clause-rings g c =
    speak_here g.P.Turns.speaks c.self.inside.places.rings.items c.args.session.now.me g.met.P.RingPlace.speaks_for_all
