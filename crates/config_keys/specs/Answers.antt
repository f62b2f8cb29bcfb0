-- What reading a part of a configuration answers: its value, or the first rule that it breaks.
use Rattle.std.specs.Prelude.{◌≡◌, Bool, true, false, Option, Some, None, Result, Ok, Err}
use Rattle.config_keys.specs.declared.fault.KeyFault.{KeyFault}
use Rattle.config_keys.specs.declared.fault.KeyFault.TheVariants.{Missing, Wrong, Range, Twice, Unknown, Memory}

abbrev pub Read : Type 0 → Type 0
Read A = Result A KeyFault

-- what is read next, with the value that was read before; the first fault stays
infixl 10 ◌>>=◌
abbrev pub ◌>>=◌ : {A B : Type 0} → Read A → (A → Read B) → Read B
(Ok x) >>= f = f x
(Err e) >>= f = Err e

-- the value, and this fault where there is none
abbrev pub given : {A : Type 0} → KeyFault → Option A → Read A
given fault None = Err fault
given fault (Some x) = Ok x

-- this fault where the test fails
abbrev pub holds : KeyFault → (held : Bool) → Read (Unit {0})
holds fault true = Ok tt
holds fault false = Err fault

-- a call refuses for this reason, or for want of memory
abbrev pub Refuses : {A : Type 0} → KeyFault → Read A → Type 0
Refuses Memory read = Unit {0}
Refuses (Missing key) read = read ≡ Err (Missing key)
Refuses (Wrong key) read = read ≡ Err (Wrong key)
Refuses (Range key) read = read ≡ Err (Range key)
Refuses (Twice key) read = read ≡ Err (Twice key)
Refuses (Unknown key) read = read ≡ Err (Unknown key)

-- a call answered this, unless memory ran out
abbrev pub Gives : {A : Type 0} → Read A → Read A → Type 0
Gives (Ok x) read = read ≡ Ok x
Gives (Err fault) read = Refuses fault read

-- the same of the value that the function makes of what the call returned
abbrev pub GivesBy : {A B : Type 0} → (A → B) → Read A → Read B → Type 0
GivesBy f (Ok x) read = read ≡ Ok (f x)
GivesBy f (Err fault) read = Refuses fault read
