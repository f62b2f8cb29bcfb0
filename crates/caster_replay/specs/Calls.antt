-- What the calls of a session ensure where nobody else calls in between.
use Rattle.std.specs.Prelude.{◌≡◌, ℕ, true, false, List, [], ◌++◌, Some}
use Rattle.session_calls.specs.Steps.{Step}
use Rattle.cast_config.specs.declared.config.Config.{Config}
use Rattle.session_model.specs.declared.ending.Last.{Last}
use Rattle.session_model.specs.declared.report.Receipt.{Receipt}
use Rattle.session_core.specs.declared.session.Session.{Session}
use Rattle.session_model.specs.Headings.{Heading}
use Rattle.session_model.specs.Judged.{Opening, judged}
use Rattle.session_model.specs.Reports.{IsHeadingOf}
use Rattle.session_model.specs.Run.{Histories}
use Rattle.session_model.specs.Called.{OthersCalled}
use Rattle.session_core.specs.Standing.{StandsFor, Fed}
use Rattle.session_core.specs.Closed.{IsClosed}
use Rattle.session_core.specs.Turned.{Turned, is_rover}

-- what a session that opens ensures
abbrev pub Opens : Config → Histories → Histories → Session → Opening → List ℕ → Type 0
Opens c old now session o after = Fed c true old now session o [] [] [] [] after

-- what a session that takes bytes ensures: the next stands for them too
abbrev pub Feeds : Config → Histories → Histories → Session → Session
    → List ℕ → List ℕ → List ℕ → Type 0
Feeds c old now session next text before after =
    (opening : Opening) (so_far : List ℕ) (steps : List Step)
    (histories : Histories) (sent : List ℕ)
    → StandsFor c session opening so_far steps histories sent
    → OthersCalled histories old session.me
    → Fed c true old now next opening (so_far ++ text) steps sent before after

-- one that takes a turn: a rover makes its read, and nothing else changes
abbrev pub TakesTurn : Config → Histories → Histories → Session → Session
    → ℕ → List ℕ → List ℕ → Type 0
TakesTurn c old now session next budget before after =
    (is_rover session.stage ≡ true → (opening : Opening) (so_far : List ℕ) (steps : List Step)
    (histories : Histories) (sent : List ℕ)
    → StandsFor c session opening so_far steps histories sent
    → OthersCalled histories old session.me
    → Turned c true old now budget next opening so_far steps sent before after)
    × (is_rover session.stage ≡ false → (next ≡ session) × (now ≡ old) × (after ≡ before))

-- and one that is closed
abbrev pub Closes : Config → Histories → Histories → Session → Last → Receipt → Type 0
Closes c old now session last receipt =
    (opening : Opening) (heading : Heading) (text : List ℕ) (steps : List Step)
    (histories : Histories) (sent : List ℕ)
    → IsHeadingOf (Some opening) text heading
    → StandsFor c session opening text steps histories sent
    → OthersCalled histories old session.me
    → IsClosed c true old now session.me session.ended
    (judged c opening heading text) steps last receipt
