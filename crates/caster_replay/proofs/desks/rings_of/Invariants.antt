-- the places at the first rings, at which nothing was called
use Rattle.caster_replay.proofs.DeskLemmas.{AreFirst}
use Rattle.caster_replay.proofs.desks.rings_of.Given as goal

abbrev pub invariant-loop-number : goal.invariant-loop-number
invariant-loop-number g l = AreFirst g.P.Turns.shape g.P.Turns.seen l.config l.number l.rings.items
