-- The lines of the laps so far were put.
use Rattle.std.proofs.Common.{[], ◌∷◌, take}
use Rattle.std.specs.List.{flat_map}
use Rattle.mount_ring.specs.declared.cursor.Lap.{Lap}
use Rattle.caster_press.specs.Places.{IsSamePlace}
use Rattle.keep_lines.specs.Lines.{lap_line}
use Rattle.keep_lines.specs.Puts.{HasTold}
use Rattle.keep_lines.proofs.receipts.put_laps.Given as goal

abbrev pub invariant-loop-lap : goal.invariant-loop-lap
invariant-loop-lap g l = let told = g.P.AtPress.told in record {
  same : IsSamePlace (told l.fn.place) (told l.place);
  put : HasTold l.me (flat_map (λ (lap : Lap). lap_line l.link lap ∷ []) (take l.lap-index l.laps))
      (told l.fn.place).seen (told l.place).seen;
}
