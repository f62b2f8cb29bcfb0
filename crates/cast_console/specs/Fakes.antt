-- What contracts see of a console in memory.
use Rattle.std.specs.Prelude.{ℕ, List, Bool}
use Rattle.cast_console.specs.declared.wanted.Wanted.{Wanted}
use Rattle.cast_console.specs.Consoles.{ConsoleTold}

-- what is wanted there, how much of it was heard, how many workers were busy each time that it was
-- wanted how things stand, and whether nothing is wanted any more
pub record MemConsoleState : Type 0 where
  pub wanted : List Wanted
  pub at : ℕ
  pub busy : List ℕ
  pub over : Bool

abbrev pub console_told : MemConsoleState → ConsoleTold
console_told console = record { busy = console.busy; over = console.over }
