use Rattle.std.proofs.Common.{◌≡◌, ◌-◌, ◌^◌, ◌≤◌, min, drop}
use Rattle.session_script.specs.Digits.{number_from}
use Rattle.session_script.proofs.number.value_of.Given as goal

abbrev pub invariant-loop-digit : goal.invariant-loop-digit
invariant-loop-digit l = record {
  so_far : min (number_from l.value (drop l.digit-index l.digits)) (2 ^ 64 - 1) ≡ min (number_from 0 l.digits)
      (2 ^ 64 - 1);
  fits : l.value ≤ 2 ^ 64 - 1;
}
