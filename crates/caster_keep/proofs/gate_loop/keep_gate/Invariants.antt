-- So many links were kept, and the lines of each were put.
use Rattle.std.proofs.Common.{◌≡◌, ◌^◌, ◌≤◌}
use Rattle.session_core.specs.Beginnings.{worn_at}
use Rattle.session_model.specs.Called.{seen_at}
use Rattle.caster_press.specs.Places.{IsSamePlace}
use Rattle.caster_places.specs.Known.{StayKnown, known_at}
use Rattle.caster_link.specs.Wear.{wear_of}
use Rattle.caster_serve.specs.Works.{IsWithin}
use Rattle.caster_keep.proofs.KeepLemmas.{Keeping}
use Rattle.caster_keep.proofs.gate_loop.keep_gate.Given as goal

abbrev pub invariant-loop : goal.invariant-loop
invariant-loop g l = let t = g.T.Turns in let b = g.B.Turns in record {
  can : (goal.iterator-loop g).can_next l.iterator';
  finite : (goal.iterator-loop g).is_finite l.iterator';
  stay : StayKnown (known_at t.shape b.shape t.speaks b.speaks t.may_lack b.may_lack t.alone b.alone t.home b.home
      l.fn.places.rings.items l.fn.places.book)
      (known_at t.shape b.shape t.speaks b.speaks t.may_lack b.may_lack t.alone b.alone t.home b.home
      l.places.rings.items l.places.book) (worn_at t.worn b.worn l.fn.places.rings.items l.fn.places.book)
      (worn_at t.worn b.worn l.places.rings.items l.places.book);
  role : l.keeper.role ≡ l.fn.keeper.role;
  same : IsSamePlace (g.P.AtPress.told l.fn.place) (g.P.AtPress.told l.place);
  few : l.keeper.count ≤ 2 ^ 62;
  room : l.keeper.tally.sessions ≤ l.keeper.count;
  within : IsWithin l.keeper.tally;
  keeping : Keeping g.G.Door.told g.G.Gate.over g.G.Gate.peer l.setup.config.now l.fn.keeper.role l.setup.me
      (wear_of (known_at t.shape b.shape t.speaks b.speaks t.may_lack b.may_lack t.alone b.alone t.home b.home
      l.places.rings.items l.places.book) (worn_at t.worn b.worn l.places.rings.items l.places.book))
      (seen_at t.seen b.seen l.fn.places.rings.items l.fn.places.book)
      (seen_at t.seen b.seen l.places.rings.items l.places.book) l.fn.keeper.gate l.keeper.gate l.fn.keeper.tally
      l.keeper.tally l.by (g.P.AtPress.told l.fn.place).seen (g.P.AtPress.told l.place).seen l.keeper.count;
}
