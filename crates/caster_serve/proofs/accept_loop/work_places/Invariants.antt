-- So many links came back, and as many are left to be served.
use Rattle.std.proofs.Common.{◌≡◌, ◌+◌, ◌^◌, ◌<◌, ℕ}
use Rattle.session_core.specs.Beginnings.{worn_at}
use Rattle.session_model.specs.Called.{seen_at}
use Rattle.caster_places.specs.Known.{StayKnown, known_at}
use Rattle.caster_link.specs.Wear.{wear_of}
use Rattle.caster_serve.specs.Works.{IsWithin, Works}
use Rattle.caster_serve.proofs.WorkLemmas.{Visited}
use Rattle.caster_serve.proofs.accept_loop.work_places.Given as goal

abbrev pub invariant-loop : goal.invariant-loop
invariant-loop g l = let t = g.T.Turns in let b = g.B.Turns in record {
  can : (goal.iterator-loop g).can_next l.iterator';
  finite : (goal.iterator-loop g).is_finite l.iterator';
  stay : StayKnown (known_at t.shape b.shape t.speaks b.speaks t.may_lack b.may_lack t.alone b.alone t.home b.home
      l.fn.places.rings.items l.fn.places.book)
      (known_at t.shape b.shape t.speaks b.speaks t.may_lack b.may_lack t.alone b.alone t.home b.home
      l.places.rings.items l.places.book) (worn_at t.worn b.worn l.fn.places.rings.items l.fn.places.book)
      (worn_at t.worn b.worn l.places.rings.items l.places.book);
  room : l.tally.sessions + l.left < 2 ^ 64;
  within : IsWithin l.tally;
  count : ℕ;
  so_many : count + l.left ≡ l.fn.limit;
  works : Works l.setup.config.now l.setup.me
      (wear_of (known_at t.shape b.shape t.speaks b.speaks t.may_lack b.may_lack t.alone b.alone t.home b.home
      l.places.rings.items l.places.book) (worn_at t.worn b.worn l.places.rings.items l.places.book)) (seen_at t.seen b.seen l.fn.places.rings.items l.fn.places.book)
      (seen_at t.seen b.seen l.places.rings.items l.places.book) (g.D.Door.told l.fn.door) (g.D.Door.told l.door)
      l.fn.tally l.tally count;
  visited : Visited (g.D.Door.told l.fn.door) (g.D.Door.told l.door);
}
