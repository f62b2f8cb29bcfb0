-- All that was read so far was written, with a step for each read.
use Rattle.std.proofs.Common.{◌≡◌, List, length}
use Rattle.cast_io.specs.declared.steps.Step.{Step}
use Rattle.cast_io_tests.specs.Copying.{Copied}
use Rattle.cast_io_tests.proofs.sending.send_back.Given as goal

abbrev pub invariant-loop : goal.invariant-loop
invariant-loop g l = let told = g.L.Link.told in record {
  taken : List Step;
  copied : Copied (told l.fn.link) (told l.link) taken;
  count : length taken ≡ l.counter;
}
