-- The passes are taken in from the last to the first.
use Rattle.std.proofs.Common.{◌∙◌, refl, ap}
use Rattle.atomic_table.specs.Seated.{table_id_coded}
use Rattle.turn_log.proofs.LockPasses.{gathered_none, gathered_one, gathered_at, worn_none, worn_one}
use Rattle.turn_log.proofs.lock.parts.Turn.take_in_all.Goals as goal

pub loop-pass-init : goal.loop-pass-init
loop-pass-init g c = record {
  table = refl;
  idle = c.requires.rests.0;
  brought = c.requires.rests.1;
  gathered = gathered_none _ _ _ _;
  worn = worn_none _ _ _;
}

pub take_in-requires-clause-here : goal.take_in-requires-clause-here
take_in-requires-clause-here g c =
    let at = gathered_at _ _ _ _ _ _ _ _ c.loop-pass.invariant.gathered c.in-Some.ensures.items in (
      c.loop-pass.invariant.table ∙ c.requires.here,
      table_id_coded.inj _ _ (c.requires.each _ _ at).0,
    )

pub loop-pass-preserved : goal.loop-pass-preserved
loop-pass-preserved g c = record {
  table = c.take_in.ensures.same ∙ c.loop-pass.invariant.table;
  idle = ap (λ view. view.stage) c.take_in.ensures.taken.1 ∙ c.loop-pass.invariant.idle;
  brought = ap (λ view. view.brought) c.take_in.ensures.taken.1;
  gathered = gathered_one _ _ g.V.Played.shape g.V.Played.fits _ _ c.in-Some.pass.token.me.0 _ _ _ _ _ _
      c.loop-pass.invariant.gathered c.in-Some.ensures.items c.in-Some.pass.numbered.0 refl c.take_in.ensures.taken;
  worn = worn_one _ _ _ _ _ _ _ c.in-Some.pass c.loop-pass.invariant.worn c.in-Some.ensures.items
      (ap (λ view. view.worn) c.take_in.ensures.taken.1);
}
