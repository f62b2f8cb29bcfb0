use Rattle.std.proofs.Common.{◌≡◌, ◌≤◌, ◌++◌, take}
use Rattle.std.specs.Vec.{vec_capacity}
use Rattle.sourcetable.specs.Record.{letters, fields_text}
use Rattle.sourcetable.proofs.writing.push_record.Given as goal

-- the letters and the fields so far stand there
abbrev pub invariant-loop-field : goal.invariant-loop-field
invariant-loop-field l =
    (l.out.items ≡ l.fn.out.items ++ (letters l.entry.kind ++ fields_text (take l.field-index l.field-items)))
    × (vec_capacity l.fn.out ≤ vec_capacity l.out)
