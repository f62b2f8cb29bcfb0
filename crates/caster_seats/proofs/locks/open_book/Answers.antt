-- The passes are dealt as the lock says.
use Rattle.caster_seats.proofs.locks.open_book.Goals as goal

pub returns-clause-dealt : goal.returns-clause-dealt
returns-clause-dealt c = record {
  size = c.in_ok-turn.ensures.all;
  each = λ i pass at. let is = c.in_ok-turn.ensures.each i pass at in
      record { numbered = is.0; unseen = is.1; here = is.3 };
}
