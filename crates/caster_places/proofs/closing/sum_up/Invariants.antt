-- the sums so far
use Rattle.std.proofs.Common.{◌≡◌, ◌+◌, ◌≤◌, ◌++◌, take, length, vec_len, vec_capacity}
use Rattle.caster_accounts.specs.Kept.{Keeps}
use Rattle.session_model.specs.Run.{Histories}
use Rattle.session_model.specs.Reports.{sums_from}
use Rattle.caster_places.proofs.closing.sum_up.Given as goal

abbrev pub invariant-loop-number : goal.invariant-loop-number
invariant-loop-number l = record {
  so_far : (h : Histories) → Keeps l.book h.book
      → l.sums.items ≡ l.fn.sums.items ++ sums_from 1 h (take l.number l.accounts);
  many : vec_len l.sums ≡ vec_len l.fn.sums + l.number;
  wide : vec_len l.fn.sums + length l.accounts ≤ vec_capacity l.sums;
}
