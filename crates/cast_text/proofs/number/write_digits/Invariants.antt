use Rattle.std.proofs.Common.{◌≡◌, ◌≤◌, false, drop, length}
use Rattle.std.specs.Fmt.{digits, digits_onto}
use Rattle.cast_text.proofs.number.write_digits.Given as goal

abbrev pub invariant-loop-at : goal.invariant-loop-at
invariant-loop-at l = record {
  size : length l.room ≡ 64;
  within : l.at ≤ 64;
  so_far : digits_onto l.at l.base false l.left (drop l.at l.room) ≡ digits l.base false l.value;
}

abbrev pub decreases-loop-at : goal.decreases-loop-at
decreases-loop-at l = l.at
