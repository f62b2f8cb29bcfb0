-- Its session is closed.
use Rattle.std.proofs.Common.{Bool, map, refl, sym, ap, subst, arith}
use Rattle.session_core.specs.Beginnings.{worn_at}
use Rattle.session_model.specs.Called.{alone_at, seen_at}
use Rattle.caster_link.specs.Wear.{MayRefuse, lacks_in}
use Rattle.caster_link.proofs.PlaceLemmas.{fit_kept, speak_by}
use Rattle.caster_link.proofs.ReachLemmas.{follows_reached}
use Rattle.caster_link.proofs.ClosedLemmas.{came_closed}
use Rattle.caster_link.proofs.WornLemmas.{ending_is, may_by, same_length, stay_known, worn_still}
use Rattle.caster_link.proofs.service.Service.close.Goals as goal

pub close-requires-clause-rings : goal.close-requires-clause-rings
close-requires-clause-rings g c =
    let it = c.requires.came in
    speak_by g.T.Turns.speaks c.args.places.now.rings.items c.args.self.session.me
    (fit_kept _ _ _ _ _ it.came.reached.caller refl it.fit).rings

pub close-requires-clause-book : goal.close-requires-clause-book
close-requires-clause-book g c =
    let it = c.requires.came in (fit_kept _ _ _ _ _ it.came.reached.caller refl it.fit).book

pub close-requires-clause-follows : goal.close-requires-clause-follows
close-requires-clause-follows g c =
    let it = c.requires.came in (
      it.config,
      it.fit.shapes_fit,
      it.fit.caps_fit,
      follows_reached _ _ _ _ _ _ _ _ _ it.came.reached (omega (arith, it.came.few)),
    )

pub returns-clause-stay : goal.returns-clause-stay
returns-clause-stay g c =
    stay_known g.T.Turns g.B.Turns c.args.places.now c.close.new.places c.close.ensures.stay

pub returns-clause-served : goal.returns-clause-served
returns-clause-served g c = λ config opening me start before after fit came.
    let t = g.T.Turns in let b = g.B.Turns in
    let old = c.args.places.now in
    let new = c.close.new.places in
    came_closed config opening me (alone_at t.alone b.alone old.rings.items old.book) start
    (seen_at t.seen b.seen old.rings.items old.book) (seen_at t.seen b.seen new.rings.items new.book)
    c.args.self.session before after c.args.last c.close.result came
    (λ heading text steps histories sent is stands others.
    c.close.ensures.closed config opening heading text steps histories sent fit.shapes_fit fit.caps_fit is stands
    others)

pub returns-clause-worn : goal.returns-clause-worn
returns-clause-worn g c =
    let t = g.T.Turns in let b = g.B.Turns in
    let old = c.args.places.now in
    let new = c.close.new.places in
    let it = c.requires.came in
    worn_still (map t.worn old.rings.items) (map t.worn new.rings.items) (b.worn old.book) (b.worn new.book)
    c.args.self.session.ended c.args.last _ c.close.result.ending
    (same_length t.shape t.worn old.rings.items new.rings.items c.close.ensures.stay.at_rings.same.0)
    c.close.ensures.stay.at_rings.worn c.close.ensures.stay.at_book.worn c.requires.cause
    (ending_is it.config it.opening it.me (alone_at t.alone b.alone old.rings.items old.book) it.start
    (seen_at t.seen b.seen old.rings.items old.book) (seen_at t.seen b.seen new.rings.items new.book)
    c.args.self.session it.before it.after c.args.last c.close.result it.came
    (λ heading text steps histories sent is stands others.
    c.close.ensures.closed it.config it.opening heading text steps histories sent it.fit.shapes_fit it.fit.caps_fit is
    stands others))

pub returns-clause-unsettled : goal.returns-clause-unsettled
returns-clause-unsettled g c = λ is.
    let t = g.T.Turns in let b = g.B.Turns in
    let old = c.args.places.now in
    let new = c.close.new.places in
    let may = c.close.ensures.unsettled is in
    let same = (stay_known t b old new c.close.ensures.stay).known in
    subst (λ (lacks : Bool). MayRefuse (record {
      may_lack = lacks;
      turns = worn_at t.worn b.worn new.rings.items new.book;
    })) (sym (ap lacks_in same))
    (may_by (map t.may_lack old.rings.items) (b.may_lack old.book) _ may.0 may.1)
