-- The lines so far were put.
use Rattle.std.proofs.Common.{take}
use Rattle.caster_press.specs.Places.{HasPut, IsSamePlace}
use Rattle.caster_press.proofs.place.put_all.Given as goal

abbrev pub invariant-loop-line : goal.invariant-loop-line
invariant-loop-line g l = let told = g.P.AtPress.told in record {
  same : IsSamePlace (told l.fn.place) (told l.place);
  put : HasPut l.me (take l.line-index l.lines) (told l.fn.place).seen (told l.place).seen;
}
