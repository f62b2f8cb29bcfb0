-- What the connections of a run were sent so far, and which of them an event sends more.
use Rattle.std.specs.Prelude.{◌≡◌, ◌≢◌, ℕ, ◌==◌, nat_lt, if◌then◌else◌, List, [], ◌∷◌, ◌++◌}
use Rattle.session_script.specs.declared.Event.{Event}
use Rattle.session_script.specs.declared.Event.TheVariants as events
use Rattle.session_model.specs.declared.report.Connection.{Connection}
use Rattle.caster_replay.specs.Lives.{Live}

-- all bytes that the connection of this number was sent, none where there is no such connection:
-- they stand in increasing order of number
abbrev pub sent_in : ℕ → List Live → List ℕ
sent_in n [] = []
sent_in n (live ∷ lives) =
    if nat_lt live.number n then sent_in n lives
    else if live.number == n then live.bytes else []

-- the same of what is told of them
abbrev pub told_sent : ℕ → List Connection → List ℕ
told_sent n [] = []
told_sent n (told ∷ more) =
    if nat_lt told.number n then told_sent n more
    else if told.number == n then told.bytes else []

-- nobody was sent more
abbrev pub IsSilent : List Live → List Live → Type 0
IsSilent before after = (n : ℕ) → sent_in n after ≡ sent_in n before

-- nobody but the connection of this number was sent more
pub record SendsTo (number : ℕ) (before after : List Live) : Type 0 where
  pub others : (n : ℕ) → n ≢ number → sent_in n after ≡ sent_in n before
  pub more : List ℕ
  pub own : sent_in number after ≡ sent_in number before ++ more

-- an event sends more to its own connection alone, and only where it asks another caster, brings
-- bytes or is a turn
abbrev pub Sends : Event → List Live → List Live → Type 0
Sends (events.Open k) before after = IsSilent before after
Sends (events.Relay k relay) before after = SendsTo k before after
Sends (events.Source k mount) before after = IsSilent before after
Sends (events.Rover k mount) before after = IsSilent before after
Sends (events.In k bytes) before after = SendsTo k before after
Sends (events.Turn k budget) before after = SendsTo k before after
Sends (events.Break k) before after = IsSilent before after
Sends (events.End k) before after = IsSilent before after
