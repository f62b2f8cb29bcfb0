-- the lines of the events so far
use Rattle.std.proofs.Common.{◌≡◌, [], ◌∷◌, ◌++◌, take}
use Rattle.std.specs.List.{flat_map}
use Rattle.session_script.specs.Line.{line_text}
use Rattle.session_script.proofs.writing.script_text.Given as goal

abbrev pub invariant-loop-event : goal.invariant-loop-event
invariant-loop-event l =
    l.text.items ≡ flat_map (λ event. line_text event ++ 10 ∷ []) (take l.event-index l.events)
