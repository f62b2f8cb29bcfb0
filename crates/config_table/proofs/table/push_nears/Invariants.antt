use Rattle.std.proofs.Common.{◌≡◌, ◌+◌, ◌++◌, drop}
use Rattle.config_table.specs.Table.{near_records}
use Rattle.config_table.proofs.table.push_nears.Given as goal

abbrev pub invariant-loop-i : goal.invariant-loop-i
invariant-loop-i l = l.records.items ++ near_records l.config (l.first + l.i) (drop l.i l.nears) ≡ l.fn.records.items ++
    near_records l.config l.first l.nears
