use Rattle.std.proofs.Common.{◌≡◌, ◌≤◌, ◌++◌, take}
use Rattle.std.specs.Vec.{vec_capacity}
use Rattle.sourcetable.specs.Table.{lines_text}
use Rattle.sourcetable.proofs.writing.push_records.Given as goal

-- the lines of the records so far stand there
abbrev pub invariant-loop-record : goal.invariant-loop-record
invariant-loop-record l =
    (l.out.items ≡ l.fn.out.items ++ lines_text (take l.record-index l.records))
    × (vec_capacity l.fn.out ≤ vec_capacity l.out)
