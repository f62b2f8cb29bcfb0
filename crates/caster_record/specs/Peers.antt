-- What each link of a recording caster tells, beside the events and the report.
use Rattle.std.specs.Prelude.{◌≡◌, ℕ, ◌+◌, ◌≤◌, ◌⊎◌, false, IsTrue, List, [], ◌∷◌, ◌++◌, length, Some}
use Rattle.std.specs.List.{flat_map, list_any, All}
use Rattle.cast_io.specs.declared.steps.Step.{Step}
use Rattle.cast_io.specs.declared.steps.Step.TheVariants as took
use Rattle.cast_io.specs.declared.steps.LinkStep.{LinkStep}
use Rattle.cast_io.specs.declared.steps.LinkStep.TheVariants as steps
use Rattle.cast_io.specs.Told.{LinkTold}
use Rattle.caster_record.specs.Moves.{Move, taken_in, has_torn}
use Rattle.cast_io.specs.Links.{bytes_in, is_failure}

-- ---- pieces

-- these bytes end one of these steps
pub record EndsOne (given : List LinkStep) (bytes : List ℕ) : Type 0 where
  pub before : List LinkStep
  pub front : List ℕ
  pub more : List LinkStep
  pub is : given ≡ before ++ steps.Bytes (front ++ bytes) ∷ more

-- a step to come is one of these, or the end of one
abbrev pub IsEnding : List LinkStep → LinkStep → Type 0
IsEnding given (steps.Bytes bytes) = EndsOne given bytes
IsEnding given steps.Idle = Unit {0}
IsEnding given steps.End = Unit {0}

-- a read of these steps gave 4,096 bytes, or came to the end of one of them
abbrev pub IsPieceOf : List LinkStep → Step → Type 0
IsPieceOf given (took.Bytes bytes) = (length bytes ≡ 4096) ⊎ EndsOne given bytes
IsPieceOf given took.Idle = Unit {0}
IsPieceOf given took.End = Unit {0}
IsPieceOf given took.ReadFailed = Unit {0}
IsPieceOf given took.WriteFailed = Unit {0}

-- all bytes of steps to come
abbrev pub step_bytes : LinkStep → List ℕ
step_bytes (steps.Bytes bytes) = bytes
step_bytes steps.Idle = []
step_bytes steps.End = []

abbrev pub bytes_ahead : List LinkStep → List ℕ
bytes_ahead given = flat_map step_bytes given

-- ---- a link

-- The link of this number, whose connection was sent this: where it tells what it took, that is
-- what the moves say; where it tells its bytes, it was given exactly those that its connection was
-- sent, or the first of them where a write failed; a read or a write failed only where its count of
-- faults rose; and where it tells its steps, the reads gave their bytes up to those still to come,
-- and each read gave 4,096 bytes or came to the end of one of the steps that it had when it came.
pub record IsPeer (k : ℕ) (moves : List Move) (sent : List ℕ) (told : LinkTold) : Type 0 where
  pub taken : (list : List Step) → told.taken ≡ Some list → list ≡ taken_in k moves
  pub bytes : (list : List ℕ) → told.bytes ≡ Some list → (rest : List ℕ) × (sent ≡ list ++ rest)
      × (has_torn k moves ≡ false → rest ≡ [])
  pub faults : IsTrue (list_any is_failure (taken_in k moves)) → 1 ≤ told.faults
  pub content : (given left : List LinkStep) → told.given ≡ Some given → told.left ≡ Some left
      → bytes_ahead given ≡ bytes_in (taken_in k moves) ++ bytes_ahead left
  pub pieces : (given left : List LinkStep) → told.given ≡ Some given → told.left ≡ Some left
      → All (IsPieceOf given) (taken_in k moves)
  pub ahead : (given left : List LinkStep) → told.given ≡ Some given → told.left ≡ Some left
      → All (IsEnding given) left

-- these are the links of the numbers from this one on, in order
abbrev pub ArePeers : ℕ → List Move → (ℕ → List ℕ) → List LinkTold → Type 0
ArePeers k moves sent [] = Unit {0}
ArePeers k moves sent (told ∷ more) =
    IsPeer k moves (sent k) told × ArePeers (k + 1) moves sent more
