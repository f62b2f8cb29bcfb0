use Rattle.std.proofs.Common.{arith}
use Rattle.session_script.proofs.NumberLemmas.{capped_more, capped_all}
use Rattle.session_script.proofs.number.value_of.Goals as goal

pub loop-digit-preserved : goal.loop-digit-preserved
loop-digit-preserved c = record {
  so_far = capped_more c.args.digits.now c.loop-digit.digit-index c.loop-digit.value c.saturating_add-value.result _
      (omega arith) (omega arith) c.loop-digit.invariant.so_far;
  fits = omega arith;
}

pub returns : goal.returns
returns c = capped_all c.args.digits.now c.loop-digit.digit-index c.loop-digit.value _
    (omega arith) c.loop-digit.invariant.fits c.loop-digit.invariant.so_far
