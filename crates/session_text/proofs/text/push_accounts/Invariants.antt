-- the lines so far were appended, within their room
use Rattle.std.proofs.Common.{◌≡◌, ◌≤◌, ◌+◌, ◌++◌, take, sum_by, vec_len, vec_capacity}
use Rattle.std.specs.List.{flat_map, zip}
use Rattle.session_model.specs.Text.{account_line}
use Rattle.session_text.specs.Room.{account_room}
use Rattle.session_text.proofs.text.push_accounts.Given as goal

abbrev pub invariant-loop-i : goal.invariant-loop-i
invariant-loop-i l = record {
  items : l.out.items ≡ l.fn.out.items ++ flat_map account_line (take l.i (zip l.accounts l.sums));
  short : vec_len l.out ≤ vec_len l.fn.out + sum_by account_room (take l.i l.accounts);
  capacity : vec_capacity l.fn.out ≤ vec_capacity l.out;
}
