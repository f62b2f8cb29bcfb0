-- What a connection is to call, as far as its bytes say: calls one after the other, where each
-- answer decides how it goes on.
use Rattle.std.specs.Prelude.{◌≡◌, List, [], ◌∷◌}
use Rattle.session_calls.specs.Steps.{Ask, Answer, Step, ask_of, answer_of}

pub data Plan : Type 0 where
  done : Plan
  asks : Ask → (Answer → Plan) → Plan

-- what is left of a plan after these steps
abbrev pub left : Plan → List Step → Plan
left done steps = done
left (asks ask next) [] = asks ask next
left (asks ask next) (step ∷ steps) = left (next (answer_of step)) steps

-- these steps are the whole plan, each call with some answer
abbrev pub IsMade : Plan → List Step → Type 0
IsMade done steps = steps ≡ []
IsMade (asks ask next) [] = ⊥
IsMade (asks ask next) (step ∷ steps) = (ask_of step ≡ ask) × IsMade (next (answer_of step)) steps

-- these steps are a beginning of the plan
abbrev pub IsBegun : Plan → List Step → Type 0
IsBegun plan [] = Unit {0}
IsBegun done (step ∷ steps) = ⊥
IsBegun (asks ask next) (step ∷ steps) = (ask_of step ≡ ask) × IsBegun (next (answer_of step)) steps

-- one plan is a beginning of the other, whatever the answers are
abbrev pub Begins : Plan → Plan → Type 0
Begins done later = Unit {0}
Begins (asks ask next) done = ⊥
Begins (asks ask next) (asks later_ask later_next) =
    (ask ≡ later_ask) × ((answer : Answer) → Begins (next answer) (later_next answer))
