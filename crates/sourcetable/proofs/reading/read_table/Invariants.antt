use Rattle.std.proofs.Common.{◌≡◌, ◌+◌, ◌≤◌, length}
use Rattle.sourcetable.proofs.TableLemmas.{IsReadSoFar}
use Rattle.sourcetable.proofs.reading.read_table.Given as goal

-- the lines so far are those of the records, as many as the number says; each takes a byte at least
abbrev pub invariant-loop-line : goal.invariant-loop-line
invariant-loop-line l = record {
  so_far : IsReadSoFar l.bytes l.rest l.records.items;
  counted : l.number ≡ length l.records.items;
  room : l.number + length l.rest ≤ length l.bytes;
}

abbrev pub decreases-loop-line : goal.decreases-loop-line
decreases-loop-line l = length l.rest
