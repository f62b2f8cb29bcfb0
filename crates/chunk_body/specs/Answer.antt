-- What a reader answers to a byte.
use Rattle.std.specs.Prelude.{ℕ, Bool, true, false, ◌||◌, if◌then◌else◌, List, [], ◌∷◌, ◌++◌}
use Rattle.chunk_body.specs.declared.dechunk.Step.{Step}
use Rattle.chunk_body.specs.declared.dechunk.Step.TheVariants.{More, Byte, Done, Bad}
use Rattle.chunk_body.specs.Machine.{Reading, nothing_read, after, step, is_ended, is_broken, is_data}

-- the answer where the byte leads from this reading to the next phase
unfoldable pub answer : Reading → ℕ → Step
answer reading byte =
    let next = step reading.phase byte in
    if is_ended reading.phase || is_ended next then Done
    else (if is_broken next then Bad reading.taken
    else (if is_data reading.phase then Byte byte else More))

-- the data that an answer gives
abbrev pub given_by : Step → List ℕ
given_by (Byte byte) = byte ∷ []
given_by More = []
given_by Done = []
given_by (Bad place) = []

-- the body goes on
abbrev pub goes_on : Step → Bool
goes_on More = true
goes_on (Byte byte) = true
goes_on Done = false
goes_on (Bad place) = false

-- the data that all answers to these bytes give, from this reading on
abbrev pub given_from : Reading → List ℕ → List ℕ
given_from reading [] = []
given_from reading (byte ∷ more) =
    given_by (answer reading byte) ++ given_from (after reading byte) more

-- the data that a text gives, byte by byte
unfoldable pub plain_of : List ℕ → List ℕ
plain_of text = given_from nothing_read text
