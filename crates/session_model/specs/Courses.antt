-- What happened to a connection, and what it called for that.
use Rattle.std.specs.Prelude.{◌≡◌, ℕ, ◌⊎◌, ⊤, Bool, true, false, List, [], ◌∷◌, ◌++◌, map, fold, None, Some}
use Rattle.session_calls.specs.Steps.{Step}
use Rattle.session_calls.specs.Plans.{IsMade, IsBegun}
use Rattle.cast_config.specs.declared.config.Config.{Config}
use Rattle.session_model.specs.Headings.{Heading}
use Rattle.session_model.specs.Judged.{Opening, judged}
use Rattle.session_model.specs.Owed.{Happening, arrives, takes_turn, ends, came_to, owed}
use Rattle.session_model.specs.Endings.{ended_by}
use Rattle.session_model.specs.Reports.{IsHeadingOf}

-- one thing that happened to a connection, with the calls that it made for it, each with its answer
pub record Event : Type 0 where
  pub what : Happening
  pub made : List Step

-- what happened alone
abbrev pub happened : List Event → List Happening
happened events = map (λ (event : Event). event.what) events

-- the calls that a connection made in all, after these it had made before
abbrev pub steps_on : List Step → List Event → List Step
steps_on steps events = fold (λ (made : List Step) (event : Event). made ++ event.made) steps events

abbrev pub steps_of : List Event → List Step
steps_of events = steps_on [] events

-- the bytes that came in on it, after one more thing happened
abbrev pub with_bytes : List ℕ → Happening → List ℕ
with_bytes text (arrives more) = text ++ more
with_bytes text (takes_turn budget) = text
with_bytes text (ends last) = text

abbrev pub text_of : List Happening → List ℕ
text_of whats = fold with_bytes [] whats

-- a connection that opened so, on which these bytes came in and that made these calls, had not
-- ended by itself
pub record IsGoingOn (c : Config) (opening : Opening) (text : List ℕ) (steps : List Step)
    : Type 0 where
  pub heading : Heading
  pub is_heading : IsHeadingOf (Some opening) text heading
  pub unended : ended_by (came_to (judged c opening heading text) steps) ≡ None

-- what it made for the event is all that it owes for it, by the heading of all its bytes
pub record IsOwed (c : Config) (opening : Opening) (text : List ℕ) (steps : List Step)
    (event : Event) : Type 0 where
  pub heading : Heading
  pub is_heading : IsHeadingOf (Some opening) (with_bytes text event.what) heading
  pub made : IsMade (owed c opening heading text steps event.what) event.made

-- what it made is the first of that, or nothing
pub record IsFirstOwed (c : Config) (opening : Opening) (text : List ℕ) (steps : List Step)
    (event : Event) : Type 0 where
  pub heading : Heading
  pub is_heading : IsHeadingOf (Some opening) (with_bytes text event.what) heading
  pub begun : IsBegun (owed c opening heading text steps event.what) event.made

-- Each of these events came to a connection that went on, and it made all that it owed for it: no
-- event follows one that ended the connection. These bytes and calls came before them.
abbrev pub IsCourse : Config → Opening → List ℕ → List Step → List Event → Type 0
IsCourse c opening text steps [] = ⊤
IsCourse c opening text steps (event ∷ events) =
    IsGoingOn c opening text steps × IsOwed c opening text steps event
    × IsCourse c opening (with_bytes text event.what) (steps ++ event.made) events

-- A connection that was halted, by a place that was worn or by want of memory, may have made but
-- the first of what it owed for its last event. It may be halted before the first event.
abbrev pub IsBroken : (halted : Bool) → Config → Opening → List ℕ → List Step → List Event → Type 0
IsBroken false c opening text steps last = last ≡ []
IsBroken true c opening text steps [] = ⊤
IsBroken true c opening text steps (event ∷ []) =
    IsGoingOn c opening text steps
    × (IsFirstOwed c opening text steps event ⊎ (event.made ≡ []))
IsBroken true c opening text steps (event ∷ next ∷ events) = ⊥

-- all events of a connection from its first byte on, which was halted by the last of them or not
pub record Ran (c : Config) (opening : Opening) (is_halted : Bool) (events : List Event)
    : Type 0 where
  pub whole : List Event
  pub last : List Event
  pub split : events ≡ whole ++ last
  pub course : IsCourse c opening [] [] whole
  pub broken : IsBroken is_halted c opening (text_of (happened whole)) (steps_of whole) last
