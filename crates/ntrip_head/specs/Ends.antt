-- How the head of a request ends, by the bytes that came.
use Rattle.std.specs.Prelude.{ℕ, List}
use Rattle.ntrip_head.specs.declared.buffer.HeadEnd.{HeadEnd}
use Rattle.ntrip_head.specs.declared.buffer.HeadEnd.TheVariants.{Whole, Long}
use Rattle.ntrip_head.specs.Answer.{HeadAnswer}
use Rattle.ntrip_head.specs.Head.{IsHead, IsLong}
use Rattle.ntrip_head.specs.Outcome.{UnlessMemory}

-- these bytes are a whole head with this answer, unless memory ran out as it was read; or they are
-- too many
abbrev pub IsEndOf : List ℕ → HeadEnd → Type 0
IsEndOf head (Whole answer) = IsHead head × UnlessMemory answer (HeadAnswer head)
IsEndOf head Long = IsLong head
