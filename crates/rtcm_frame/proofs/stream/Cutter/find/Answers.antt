use Rattle.std.proofs.Common.{[], subst, arith}
use Rattle.rtcm_frame.specs.Pending.{Pending, Took, IsBehindJunk}
use Rattle.rtcm_frame.proofs.PendingLemmas.{took_then, behind_then}
use Rattle.rtcm_frame.proofs.stream.Cutter.find.Goals as goal

pub loop-count-preserved : goal.loop-count-preserved
loop-count-preserved c =
    let mid = c.loop-count.self in
    let new = c.pass_junk.new.self in
    let took : Took mid new [] = subst (λ (p : Pending). Took p new []) c.front.ensures.same c.pass_junk.ensures.took in
    let passed : IsBehindJunk mid new [] =
    subst (λ (p : Pending). IsBehindJunk p new []) c.front.ensures.same c.pass_junk.ensures.passed
    in
    record {
      took = took_then _ mid new c.loop-count.invariant.took took;
      passed = behind_then _ mid new c.loop-count.invariant.passed passed;
      room = omega (arith, c.loop-count.invariant.room, took.counted);
    }
