-- How a connection ends.
use Rattle.std.specs.Prelude.{ℕ, ◌&&◌, Bool, true, false, List, Option, None, Some, is_none, unwrap_or}
use Rattle.chunk_body.specs.Machine.{Reading, read, is_ended, is_broken}
use Rattle.session_calls.specs.Steps.{Step}
use Rattle.session_model.specs.declared.ending.Ending.{Ending}
use Rattle.session_model.specs.declared.ending.Ending.TheVariants as endings
use Rattle.session_model.specs.declared.ending.Last.{Last}
use Rattle.session_model.specs.declared.ending.Last.TheVariants as lasts
use Rattle.session_model.specs.Judged.{Judged}
use Rattle.session_model.specs.Owed.{Came, nothing, over, holding, inside, came_to}

-- ---- by itself

-- a body in the chunked transfer coding (RFC 9112, section 7.1) that has ended, or that is broken
-- behind so many bytes
abbrev pub body_ending : ℕ → (ended : Bool) → (broken : Bool) → ℕ → Option Ending
body_ending claim true broken before = Some (endings.SourceEnd claim)
body_ending claim false true before = Some (endings.BadChunk before)
body_ending claim false false before = None

-- a body that is not chunked has no end of its own
abbrev pub claimed_ending : (chunked : Bool) → ℕ → List ℕ → Option Ending
claimed_ending false claim body = None
claimed_ending true claim body =
    let reading : Reading = read body in
    body_ending claim (is_ended reading.phase) (is_broken reading.phase) reading.taken

abbrev pub ended_by : Came → Option Ending
ended_by (over reply end) = Some end
ended_by (holding terms body claim) = claimed_ending terms.chunked claim body
ended_by _ = None

-- ---- as it was closed

-- one that comes to its end
abbrev pub at_end : Came → Ending
at_end nothing = endings.NoHead
at_end (over reply end) = end
at_end (holding terms body claim) = endings.SourceEnd claim
at_end (inside terms) = endings.RoverEnd

abbrev pub ended_last : Last → Ending → Ending
ended_last lasts.End end = end
ended_last lasts.ReadFault end = endings.ReadFault
ended_last lasts.WriteFault end = endings.WriteFault

-- ---- both

-- what ended it first
abbrev pub ending_of : Judged → List Step → Last → Ending
ending_of judged steps last =
    let came : Came = came_to judged steps in
    unwrap_or (ended_by came) (ended_last last (at_end came))

-- whether it goes on: it was not closed, and nothing ended it
abbrev pub goes_on : Judged → List Step → Option Last → Bool
goes_on judged steps closed = is_none closed && is_none (ended_by (came_to judged steps))
