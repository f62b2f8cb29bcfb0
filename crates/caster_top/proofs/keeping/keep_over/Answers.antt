-- What it came to, and how it ended by that.
use Rattle.caster_top.proofs.keeping.keep_over.Goals as goal

pub returns-clause-kept : goal.returns-clause-kept
returns-clause-kept g c =
    (c.keep-came_to.result, c.keep-came_to.ensures.kept, c.end_of_keeping.ensures.ends)
