-- both connections follow their places, which are what they were but for what they have seen
use Rattle.std.proofs.Common.{◌≡◌}
use Rattle.turn_log.specs.Turn.{SamePlace}
use Rattle.session_calls.specs.Rings.{SamePlaces}
use Rattle.session_model.specs.Called.{seen_at}
use Rattle.session_core.specs.Standing.{Follows}
use Rattle.session_core_tests.proofs.serving.serve_two.Given as goal

abbrev pub invariant-loop-step : goal.invariant-loop-step
invariant-loop-step g l =
    let t = g.T.Turns in let b = g.B.Turns in record {
      first_me : l.two.first.session.me ≡ l.fn.two.first.session.me;
      second_me : l.two.second.session.me ≡ l.fn.two.second.session.me;
      rings : SamePlaces t.shape t.speaks t.may_lack t.alone t.home l.fn.places.rings.items l.places.rings.items;
      book : SamePlace b.shape b.speaks b.may_lack b.alone b.home l.fn.places.book l.places.book;
      first : Follows l.config l.two.first.session (seen_at t.seen b.seen l.places.rings.items l.places.book) l.room;
      second : Follows l.config l.two.second.session (seen_at t.seen b.seen l.places.rings.items l.places.book) l.room;
    }
