-- the lines so far were appended, within their room
use Rattle.std.proofs.Common.{◌≡◌, ◌≤◌, ◌+◌, ◌++◌, take, sum_by, vec_len, vec_capacity}
use Rattle.std.specs.List.{flat_map, zip}
use Rattle.session_model.specs.Text.{mount_line}
use Rattle.session_text.specs.Room.{mount_room}
use Rattle.session_text.proofs.text.push_mounts.Given as goal

abbrev pub invariant-loop-i : goal.invariant-loop-i
invariant-loop-i l = record {
  items : l.out.items ≡ l.fn.out.items ++ flat_map mount_line (take l.i (zip l.mounts l.totals));
  short : vec_len l.out ≤ vec_len l.fn.out + sum_by mount_room (take l.i l.mounts);
  capacity : vec_capacity l.fn.out ≤ vec_capacity l.out;
}
