-- A line more was put.
use Rattle.caster_press.proofs.PlaceLemmas.{put_next, same_then}
use Rattle.caster_press.proofs.place.put_all.Goals as goal

pub loop-line-preserved : goal.loop-line-preserved
loop-line-preserved g c = record {
  same = same_then _ _ _ c.loop-line.invariant.same c.put.ensures.same;
  put = put_next _ _ _ _ c.line-item.result _ _ _ c.loop-line-test.true c.line-item.is c.loop-line.invariant.put c.put.ensures.put;
}
