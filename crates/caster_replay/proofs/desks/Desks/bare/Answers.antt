use Rattle.std.proofs.Common.{◌∙◌, true, refl, ap}
use Rattle.session_core.specs.Beginnings.{bare_opening}
use Rattle.caster_replay.specs.Caster.{DesksValue}
use Rattle.caster_replay.proofs.DeskLemmas.{alone_here, speak_here, opens_here}
use Rattle.caster_replay.proofs.desks.Desks.bare.Goals as goal

pub returns-clause-same : goal.returns-clause-same
returns-clause-same g c = record {
  rings = c.bare.ensures.stay.at_rings.same.0 ∙ ap (λ (v : DesksValue). v.rings) c.self.view_is;
  book = c.bare.ensures.stay.at_book.same.0 ∙ ap (λ (v : DesksValue). v.book) c.self.view_is;
  homes = c.bare.ensures.stay.at_rings.same.4 ∙ ap (λ (v : DesksValue). v.homes) c.self.view_is;
}

pub returns-clause-opened : goal.returns-clause-opened
returns-clause-opened g c =
    opens_here _ c.args.config.now _ c.args.self.now.seen _
    (alone_here g.P.Turns.alone (λ book. true) c.self.inside.places.rings.items c.self.inside.places.book
    g.met.P.RingPlace.is_alone refl)
    (ap (λ (v : DesksValue). v.seen) c.self.view_is) (bare_opening c.args.role c.args.mount.now) c.bare.result
    c.bare.ensures.begun

pub bare-requires-clause-rings : goal.bare-requires-clause-rings
bare-requires-clause-rings g c =
    speak_here g.P.Turns.speaks c.self.inside.places.rings.items c.args.me g.met.P.RingPlace.speaks_for_all
