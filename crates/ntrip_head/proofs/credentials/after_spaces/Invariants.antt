use Rattle.std.proofs.Common.{◌≡◌, ◌≤◌, length}
use Rattle.ntrip_head.specs.Credentials.{after_spaces}
use Rattle.ntrip_head.proofs.credentials.after_spaces.Given as goal

abbrev pub invariant-loop-rest : goal.invariant-loop-rest
invariant-loop-rest l = record {
  value : after_spaces l.rest ≡ after_spaces l.text;
  within : length l.rest ≤ length l.text;
}

abbrev pub decreases-loop-rest : goal.decreases-loop-rest
decreases-loop-rest l = length l.rest
