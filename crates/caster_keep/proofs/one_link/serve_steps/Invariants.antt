-- The connection was served so far, at places that stayed themselves; what it asked and held before
-- its last step is told, and what it asked is what it asks still, if it asked or held something.
use Rattle.std.specs.Prelude.{◌≡◌, Option, IfSome, is_some}
use Rattle.session_core.specs.declared.asked.Asked.{Asked}
use Rattle.session_core.specs.Asking.{AsksOn}
use Rattle.session_core.specs.Holding.{HoldsOn, IsHolding}
use Rattle.session_core.specs.States.{session_holding}
use Rattle.session_core.specs.Beginnings.{worn_at}
use Rattle.session_model.specs.Called.{IsCause, seen_at}
use Rattle.caster_places.specs.Known.{StayKnown, known_at}
use Rattle.caster_link.specs.Links.{opening_of}
use Rattle.caster_link.specs.Stepped.{IsServed}
use Rattle.caster_press.specs.Places.{IsSamePlace}
use Rattle.keep_lines.specs.Puts.{HasTold}
use Rattle.caster_keep.specs.Links.{told_lines}
use Rattle.caster_keep.proofs.one_link.serve_steps.Given as goal

abbrev pub invariant-loop : goal.invariant-loop
invariant-loop g l = let t = g.T.Turns in let b = g.B.Turns in record {
  can : (goal.iterator-loop g).can_next l.iterator';
  finite : (goal.iterator-loop g).is_finite l.iterator';
  stay : StayKnown (known_at t.shape b.shape t.speaks b.speaks t.may_lack b.may_lack t.alone b.alone t.home b.home
      l.fn.places.rings.items l.fn.places.book)
      (known_at t.shape b.shape t.speaks b.speaks t.may_lack b.may_lack t.alone b.alone t.home b.home
      l.places.rings.items l.places.book) (worn_at t.worn b.worn l.fn.places.rings.items l.fn.places.book)
      (worn_at t.worn b.worn l.places.rings.items l.places.book);
  cause : IfSome l.service.session.ended (IsCause (worn_at t.worn b.worn l.places.rings.items l.places.book));
  served : IsServed l.setup.config.now (opening_of l.fn.role) l.setup.me
      (seen_at t.seen b.seen l.fn.places.rings.items l.fn.places.book)
      (seen_at t.seen b.seen l.places.rings.items l.places.book) (g.L.Link.told l.fn.link) (g.L.Link.told l.link)
      l.service;
  same : IsSamePlace (g.P.AtPress.told l.fn.place) (g.P.AtPress.told l.place);
  holds : HoldsOn l.told.held (session_holding l.service.session);
  asked : Option Asked;
  is_asked : l.told.is_asked ≡ is_some asked;
  asks : AsksOn asked l.service.session.asked;
  still : IsHolding l.told.held → l.service.session.asked ≡ asked;
  put : HasTold l.fn.teller.by (told_lines l.setup.config.now l.fn.teller.number asked l.told.held)
      (g.P.AtPress.told l.fn.place).seen (g.P.AtPress.told l.place).seen;
}
