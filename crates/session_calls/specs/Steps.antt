-- What a connection calls at its caster: the rings of the mountpoints, each by its number, and the
-- book of accounts; and how each call was answered.
use Rattle.std.specs.Prelude.{ℕ, ◌==◌, if◌then◌else◌, List, [], ◌∷◌}
use Rattle.std.specs.List.{flat_map}
use Rattle.mount_ring.specs.declared.call.RingCall.{RingCall}
use Rattle.mount_ring.specs.declared.call.RingAnswer.{RingAnswer}
use Rattle.caster_accounts.specs.declared.call.BookCall.{BookCall}
use Rattle.caster_accounts.specs.declared.call.BookAnswer.{BookAnswer}

-- a call, with the place that it goes to
pub data Ask : Type 0 where
  to_ring : ℕ → RingCall → Ask
  to_book : BookCall → Ask

-- what a call is answered
pub data Answer : Type 0 where
  of_ring : RingAnswer → Answer
  of_book : BookAnswer → Answer

-- a call that was made, with its answer: at a ring, or at the book
pub data Step : Type 0 where
  at_ring : ℕ → RingCall → RingAnswer → Step
  at_book : BookCall → BookAnswer → Step

-- the call, without its answer
abbrev pub ask_of : Step → Ask
ask_of (at_ring mount call answer) = to_ring mount call
ask_of (at_book call answer) = to_book call

-- and the answer alone
abbrev pub answer_of : Step → Answer
answer_of (at_ring mount call answer) = of_ring answer
answer_of (at_book call answer) = of_book answer

-- the calls at one mountpoint's ring among these steps, in order, each with its answer
abbrev pub ring_part : ℕ → Step → List (RingCall × RingAnswer)
ring_part mount (at_ring asked call answer) = if asked == mount then (call, answer) ∷ [] else []
ring_part mount (at_book call answer) = []

abbrev pub on_ring : ℕ → List Step → List (RingCall × RingAnswer)
on_ring mount steps = flat_map (ring_part mount) steps

-- the calls at the book among these steps, in order, each with its answer
abbrev pub book_part : Step → List (BookCall × BookAnswer)
book_part (at_ring mount call answer) = []
book_part (at_book call answer) = (call, answer) ∷ []

abbrev pub on_book : List Step → List (BookCall × BookAnswer)
on_book steps = flat_map book_part steps
