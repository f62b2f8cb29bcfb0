-- the numbers so far were appended, each of them in 40 bytes at most
use Rattle.std.proofs.Common.{◌≡◌, ◌≤◌, ◌+◌, ◌*◌, ◌++◌, take, vec_len, vec_capacity}
use Rattle.session_model.specs.Text.{spaced}
use Rattle.session_text.proofs.text.end_line.Given as goal

abbrev pub invariant-loop-number : goal.invariant-loop-number
invariant-loop-number l = record {
  items : l.out.items ≡ l.fn.out.items ++ spaced (take l.number-index l.numbers);
  short : vec_len l.out ≤ vec_len l.fn.out + 40 * l.number-index;
  capacity : vec_capacity l.fn.out ≤ vec_capacity l.out;
}
