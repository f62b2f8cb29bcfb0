use Rattle.std.proofs.Common.{◌≡◌, take}
use Rattle.access_groups.proofs.password.is_password.Given as goal

-- as far as the bytes were compared, nothing differs exactly where they are the same
abbrev pub invariant-loop-i : goal.invariant-loop-i
invariant-loop-i l = record {
  same : l.difference ≡ 0 → take l.i l.password ≡ take l.i l.sent;
  none : l.password ≡ l.sent → l.difference ≡ 0;
}
