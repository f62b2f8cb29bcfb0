-- The line of one lap more, and those of all.
use Rattle.std.proofs.Common.{[], ◌∷◌, List, ℕ, ap, refl, arith}
use Rattle.mount_ring.specs.declared.cursor.Lap.{Lap}
use Rattle.caster_press.proofs.PlaceLemmas.{same_then}
use Rattle.keep_lines.specs.Lines.{lap_line}
use Rattle.keep_lines.proofs.PutLemmas.{one_each, told_all, told_as, told_next}
use Rattle.keep_lines.proofs.receipts.put_laps.Goals as goal

pub loop-lap-preserved : goal.loop-lap-preserved
loop-lap-preserved g c =
    let one : Lap → List (List ℕ) = λ lap. lap_line c.args.link lap ∷ [] in record {
      same = same_then _ _ _ c.loop-lap.invariant.same c.put_line.ensures.same;
      put = told_next c.args.me one c.args.laps.now c.loop-lap.lap-index _ _ c.loop-lap-test.true refl _ _ _ c.loop-lap.invariant.put
          (told_as c.args.me _ _ _ _ (ap (λ (l : List ℕ). l ∷ []) c.lap_line.ensures) c.put_line.ensures.put);
    }

pub returns-clause-put : goal.returns-clause-put
returns-clause-put g c =
    let one : Lap → List (List ℕ) = λ lap. lap_line c.args.link lap ∷ [] in
    told_as c.args.me _ _ _ _ (one_each (lap_line c.args.link) c.args.laps.now)
    (told_all c.args.me one c.args.laps.now c.loop-lap.lap-index (omega (arith, c.loop-lap-test.false)) _ _ c.loop-lap.invariant.put)
