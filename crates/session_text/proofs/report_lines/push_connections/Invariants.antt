-- the lines of the connections so far were appended
use Rattle.std.proofs.Common.{◌≡◌, ◌++◌, take}
use Rattle.std.specs.List.{flat_map}
use Rattle.session_model.specs.Text.{connection_lines}
use Rattle.session_text.proofs.report_lines.push_connections.Given as goal

abbrev pub invariant-loop-told : goal.invariant-loop-told
invariant-loop-told l =
    l.out.items ≡ l.fn.out.items ++ flat_map (connection_lines l.config) (take l.told-index l.connections)
