use Rattle.std.proofs.Common.{◌≡◌, []}
use Rattle.turn_log.specs.declared.lock.rule.SeatStage.TheVariants.{Idle}
use Rattle.turn_log.proofs.LockPasses.{Gathered, WornAsFar}
use Rattle.turn_log.proofs.lock.parts.Turn.take_in_all.Given as goal

-- those that are not left were taken in
abbrev pub invariant-loop-pass : goal.invariant-loop-pass
invariant-loop-pass g l = record {
  table : l.token.table_id ≡ l.fn.token.table_id;
  idle : l.token.me.0.stage ≡ Idle;
  brought : l.token.me.0.brought ≡ [];
  gathered : Gathered (λ pass. pass.number) (λ pass. pass.token.me.0.seen) l.fn.token.me.0 l.token.me.0
      l.fn.passes.items l.passes.items;
  worn : WornAsFar (λ pass. pass.token.me.0.worn) l.fn.token.me.0.worn l.token.me.0.worn l.fn.passes.items
      l.passes.items;
}

abbrev pub decreases-loop-pass : goal.decreases-loop-pass
decreases-loop-pass g l = goal.left-loop-pass g l
