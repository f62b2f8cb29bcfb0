use Rattle.std.proofs.Common.{◌≡◌, ◌++◌, drop}
use Rattle.config_table.specs.Table.{mount_records}
use Rattle.config_table.proofs.table.push_mounts.Given as goal

abbrev pub invariant-loop-i : goal.invariant-loop-i
invariant-loop-i l = l.records.items ++ mount_records l.config l.i (drop l.i l.mounts) ≡ l.fn.records.items ++
    mount_records l.config 0 l.mounts
