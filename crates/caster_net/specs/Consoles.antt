-- What contracts see of a console at the input of a stop.
use Rattle.std.specs.Prelude.{ℕ, ◌+◌, ◌%◌, ◌^◌, [], false}
use Rattle.cast_console.specs.Consoles.{ConsoleTold}
use Rattle.cast_console.specs.declared.wanted.Wanted.{Wanted}
use Rattle.cast_console.specs.declared.wanted.Wanted.TheVariants as wants

-- what it tells, and how many lines `status` of the input it has answered, of which the count of
-- all lines goes on with 0 behind 2^64 - 1
pub record ConsoleState : Type 0 where
  pub told : ConsoleTold
  pub heard : ℕ

-- a console at which nothing was heard
abbrev pub new_console : ConsoleState
new_console = record { told = record { busy = []; over = false }; heard = 0 }

abbrev pub console_told : ConsoleState → ConsoleTold
console_told console = console.told

-- the count behind one line more
abbrev pub next_line : ℕ → ℕ
next_line heard = (heard + 1) % 2 ^ 64

-- the count of answered lines behind this: each answer is one line's
abbrev pub heard_behind : Wanted → ℕ → ℕ
heard_behind (wants.Status busy) heard = next_line heard
heard_behind wants.Nothing heard = heard
heard_behind wants.Over heard = heard
