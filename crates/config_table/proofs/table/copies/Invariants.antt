use Rattle.std.proofs.Common.{◌≡◌, take}
use Rattle.config_table.proofs.table.copies.Given as goal

abbrev pub invariant-loop-record : goal.invariant-loop-record
invariant-loop-record l = l.copies.items ≡ take l.record-index l.records
