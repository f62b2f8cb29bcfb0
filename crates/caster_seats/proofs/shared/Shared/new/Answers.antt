-- All locks were opened for the passes.
use Rattle.caster_seats.proofs.shared.Shared.new.Goals as goal

pub returns-clause-passes : goal.returns-clause-passes
returns-clause-passes c = record { rings = c.in_ok-rings.ensures.passes; book = c.in_ok-book.ensures.passes }
