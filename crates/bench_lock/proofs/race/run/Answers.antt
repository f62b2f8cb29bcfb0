use Rattle.std.proofs.Common.{IsTrue, sym, ◌∙◌, ap, subst, arith}
use Rattle.bench_lock.specs.Shares.{share}
use Rattle.bench_lock.proofs.ShareLemmas.{took, past}
use Rattle.bench_lock.proofs.race.run.Goals as goal

-- a turn leaves the seat where it is, and adds one to the share
pub loop-taken-preserved : goal.loop-taken-preserved
loop-taken-preserved g c =
    let turn = c.in-Ok.ensures.ok in
    let one = took c.args.runner.me c.args.turns _ _ _ turn.none_of_mine turn.seen
    (omega (arith, turn.answered, c.if-turns-number.false)) in
    record {
      speaks = subst IsTrue (sym (ap (λ f. f c.args.runner.me) c.turn.ensures.same.1)) c.loop-taken.invariant.speaks;
      home = c.turn.ensures.same.4 ∙ c.loop-taken.invariant.home;
      counted = omega (arith, one, c.loop-taken.invariant.counted);
    }

-- the last turn came too late to count
pub returns-then-turns-number : goal.returns-then-turns-number
returns-then-turns-number g c =
    let turn = c.in-Ok.ensures.ok in
    ap (λ h. share c.args.runner.me c.args.turns h) c.leave.ensures.seen
    ∙ past c.args.runner.me c.args.turns _ _ _ turn.none_of_mine turn.seen
    (omega (arith, turn.answered, c.if-turns-number.true))
    ∙ c.loop-taken.invariant.counted
