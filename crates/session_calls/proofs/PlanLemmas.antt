-- Plans that go on.
use Rattle.std.proofs.Common.{◌≡◌, List, [], ◌∷◌, ◌++◌, refl, subst, ◌∙◌}
use Rattle.session_calls.specs.Steps.{Step, answer_of}
use Rattle.session_calls.specs.Plans.{Plan, done, asks, left, IsMade, IsBegun, Begins}

-- nothing is left of what was not begun
left_none : (plan : Plan) → left plan [] ≡ plan
left_none done = refl
left_none (asks ask next) = refl

pub made_both : (plan later : Plan) (first second : List Step) → Begins plan later
    → IsMade plan first → IsMade (left later first) second → IsMade later (first ++ second)
made_both done later [] second begins made rest = subst (λ p. IsMade p second) (left_none later) rest
made_both done later (step ∷ first) second begins made rest = absurd cc
made_both (asks ask next) done first second begins made rest = absurd begins
made_both (asks ask next) (asks later_ask later_next) [] second begins made rest = absurd made
made_both (asks ask next) (asks later_ask later_next) (step ∷ first) second begins made rest = (
  cc,
  made_both (next (answer_of step)) (later_next (answer_of step)) first second (begins.1 (answer_of step)) made.1
      rest,
)

pub begun_both : (plan later : Plan) (first second : List Step) → Begins plan later
    → IsMade plan first → IsBegun (left later first) second → IsBegun later (first ++ second)
begun_both done later [] second begins made rest = subst (λ p. IsBegun p second) (left_none later) rest
begun_both done later (step ∷ first) second begins made rest = absurd cc
begun_both (asks ask next) done first second begins made rest = absurd begins
begun_both (asks ask next) (asks later_ask later_next) [] second begins made rest = absurd made
begun_both (asks ask next) (asks later_ask later_next) (step ∷ first) second begins made rest = (
  cc,
  begun_both (next (answer_of step)) (later_next (answer_of step)) first second (begins.1 (answer_of step))
      made.1 rest,
)

-- what is made is begun
pub made_begun : (plan : Plan) (steps : List Step) → IsMade plan steps → IsBegun plan steps
made_begun done [] made = tt
made_begun done (step ∷ steps) made = absurd cc
made_begun (asks ask next) [] made = absurd made
made_begun (asks ask next) (step ∷ steps) made = (made.0, made_begun (next (answer_of step)) steps made.1)

-- what was made of a plan as a whole is, behind its first steps, what is left of it
pub made_rest : (plan : Plan) (first second : List Step) → IsMade plan (first ++ second)
    → IsMade (left plan first) second
made_rest done [] second made = made
made_rest done (step ∷ first) second made = absurd cc
made_rest (asks ask next) [] second made = made
made_rest (asks ask next) (step ∷ first) second made = made_rest (next (answer_of step)) first second made.1

-- what begins a plan begins a longer one
pub begun_longer : (plan later : Plan) (steps : List Step) → Begins plan later → IsBegun plan steps
    → IsBegun later steps
begun_longer plan later [] begins begun = tt
begun_longer done later (step ∷ steps) begins begun = absurd begun
begun_longer (asks ask next) done (step ∷ steps) begins begun = absurd begins
begun_longer (asks ask next) (asks later_ask later_next) (step ∷ steps) begins begun = (
  begun.0 ∙ begins.0,
  begun_longer (next (answer_of step)) (later_next (answer_of step)) steps
      (begins.1 (answer_of step)) begun.1,
)
