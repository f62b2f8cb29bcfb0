-- At most six digits write a number of 24 bits, so there is room for one more.
use Rattle.std.proofs.Common.{arith}
use Rattle.std.proofs.lemmas.Bool.Decides.{nat_tests}
use Rattle.chunk_body.specs.Machine.{is_within}
use Rattle.chunk_body.proofs.SizeLemmas.{six_digits}
use Rattle.chunk_body.proofs.phase.next_in_digits.Goals as goal

pub overflow_mul-result : goal.overflow_mul-result
overflow_mul-result c =
    omega (arith, six_digits c.args.count c.args.value c.requires.count c.requires.value)

pub overflow_add-result-in-Some : goal.overflow_add-result-in-Some
overflow_add-result-in-Some c =
    let small = six_digits c.args.count c.args.value c.requires.count c.requires.value in
    omega (arith, small, c.in-Some.ensures.value)

pub returns-then-byte-eq59-clause-within : goal.returns-then-byte-eq59-clause-within
unfolding is_within
returns-then-byte-eq59-clause-within c =
    let small = six_digits c.args.count c.args.value c.requires.count c.requires.value in
    grind (arith, nat_tests, small)

pub next_if-requires : goal.next_if-requires
unfolding is_within
next_if-requires c =
    let small = six_digits c.args.count c.args.value c.requires.count c.requires.value in
    grind (arith, nat_tests, small)
