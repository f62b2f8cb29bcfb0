use Rattle.std.proofs.Common.{◌≡◌, ℕ, ◌+◌, ◌≤◌, [], length, vec_len, vec_capacity}
use mathlib.Core.Option.{some}
use lib.ListN.{get_elem?}
use Rattle.turn_log.specs.LockRule.{from, maker}
use Rattle.turn_log.specs.Lock.{pass_number, pass_seen, pass_worn, IsPassOf}
use Rattle.turn_log.proofs.lock.parts.Turn.deal_all.Given as goal

-- the first passes were dealt, and the first seat has the numbers that are left
abbrev pub invariant-loop-number : goal.invariant-loop-number
invariant-loop-number g l = record {
  table : l.first.table_id ≡ l.self.table.shared.table_id;
  left : (n : ℕ) × (l.number + n ≡ l.passes)
      × (l.first.me ≡ (record (maker l.self.table.shared.key.value.value 0) { numbers = from l.number n }, []));
  long : length l.list.items ≡ l.number;
  spare : vec_len l.list ≡ l.number;
  room : l.passes ≤ vec_capacity l.list;
  each : (i : ℕ) (pass : _) → get_elem? l.list.items i ≡ some pass
      → (pass_number pass ≡ i) × (pass_seen pass ≡ []) × (pass_worn pass ≡ 0) × IsPassOf pass l.self;
}
