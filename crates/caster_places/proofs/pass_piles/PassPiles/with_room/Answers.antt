-- Nobody gave a pass back.
use Rattle.std.proofs.Common.{arith}
use Rattle.caster_places.proofs.PileLemmas.{none_at, no_pile}
use Rattle.caster_places.proofs.pass_piles.PassPiles.with_room.Goals as goal

pub returns-clause-empty : goal.returns-clause-empty
returns-clause-empty c = λ rings book long. record {
  size = omega (arith, long, c.loop.invariant.many, c.loop.rings.ok.0, c.loop-test.false);
  rings = λ mount pile lock here there.
      no_pile pile.items lock (none_at c.loop.rings.items mount pile c.loop.invariant.empty here);
  book = no_pile _ book c.in_ok-with_capacity-2.ensures.items;
}
