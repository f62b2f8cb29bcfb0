-- the lines so far were appended
use Rattle.std.proofs.Common.{◌≡◌, ◌≤◌, ◌++◌, take}
use Rattle.std.specs.Vec.{vec_capacity}
use Rattle.ntrip_reply.specs.Message.{lines, texts_in}
use Rattle.ntrip_reply.proofs.lines.push_lines.Given as goal

abbrev pub invariant-loop-text : goal.invariant-loop-text
invariant-loop-text l =
    (l.out.items ≡ l.fn.out.items ++ lines (texts_in (take l.text-index l.texts)))
    × (vec_capacity l.fn.out ≤ vec_capacity l.out)
