-- What an event is about.
use Rattle.std.specs.Prelude.{ℕ, Bool, true, false}
use Rattle.session_script.specs.declared.Event.{Event}
use Rattle.session_script.specs.declared.Event.TheVariants as events

-- the number of its connection
abbrev pub number_of : Event → ℕ
number_of (events.Source k mount) = k
number_of (events.Rover k mount) = k
number_of (events.Open k) = k
number_of (events.Relay k relay) = k
number_of (events.In k bytes) = k
number_of (events.Turn k budget) = k
number_of (events.Break k) = k
number_of (events.End k) = k

-- whether bytes come in by it
abbrev pub brings_bytes : Event → Bool
brings_bytes (events.Source k mount) = false
brings_bytes (events.Rover k mount) = false
brings_bytes (events.Open k) = false
brings_bytes (events.Relay k relay) = false
brings_bytes (events.In k bytes) = true
brings_bytes (events.Turn k budget) = false
brings_bytes (events.Break k) = false
brings_bytes (events.End k) = false
