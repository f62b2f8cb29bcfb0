-- A caller that puts lines of a list.
use Rattle.std.specs.Prelude.{◌≡◌, ◌≤◌, List, ◌++◌, length, take}
use Rattle.caster_press.specs.declared.line.Line.{Line}
use Rattle.caster_press_tests.specs.declared.script.Script.{Script}

-- the lines that were put
abbrev pub lines_put : Script → List Line
lines_put script = take script.put script.lines.items

-- the list is what it was, and these are the next lines of it: they were put behind those that had
-- been put before, and so all of it was put
pub record HasWritten (old new : Script) (lines : List Line) : Type 0 where
  pub same : new.lines.items ≡ old.lines.items
  pub next : lines_put new ≡ lines_put old ++ lines
  pub all : length new.lines.items ≤ new.put
