-- What contracts see of a link in memory.
use Rattle.std.specs.Prelude.{ℕ, ◌≡◌, ◌==◌, ◌&&◌, nat_lt, List, [], ◌∷◌, length, drop, Bool, true, false, Option, None, Some}
use Rattle.cast_io.specs.declared.steps.LinkStep.{LinkStep}
use Rattle.cast_io.specs.declared.steps.LinkStep.TheVariants.{Bytes, Idle, End}
use Rattle.cast_io.specs.declared.steps.Step.{Step}
use Rattle.cast_io.specs.declared.link.Got.{Got}
use Rattle.cast_io.specs.declared.link.Got.TheVariants as got
use Rattle.cast_io.specs.Causes.{next_count}
use Rattle.cast_io.specs.Fakes.{write_fails, write_takes}
use Rattle.cast_io.specs.Told.{LinkTold}

-- a link in memory: the steps given, how many of them are done and how many bytes of the next one,
-- the steps taken while they are told, the bytes taken, the numbers of the calls that are to fail,
-- for each write that is to be torn its number and how many bytes it takes, how many calls and
-- writes were made, how many faults there were, and for how many bytes there is room
pub record LinkState : Type 0 where
  pub given : List LinkStep
  pub place : ℕ
  pub offset : ℕ
  pub taken : Option (List Step)
  pub bytes : List ℕ
  pub fails : List ℕ
  pub torn : List (ℕ × ℕ)
  pub calls : ℕ
  pub writes : ℕ
  pub faults : ℕ
  pub room : ℕ

-- a step of bytes holds at least one
abbrev pub has_bytes : LinkStep → Bool
has_bytes (Bytes bytes) = nat_lt 0 (length bytes)
has_bytes Idle = true
has_bytes End = true

-- so many bytes of the first step are done, and not all of them
abbrev pub is_within : List LinkStep → ℕ → Bool
is_within [] offset = offset == 0
is_within (Bytes bytes ∷ _) offset = nat_lt offset (length bytes)
is_within (Idle ∷ _) offset = offset == 0
is_within (End ∷ _) offset = offset == 0

-- the steps without so many bytes of the first one
abbrev pub without : ℕ → List LinkStep → List LinkStep
without offset [] = []
without offset (Bytes bytes ∷ more) = Bytes (drop offset bytes) ∷ more
without offset (Idle ∷ more) = Idle ∷ more
without offset (End ∷ more) = End ∷ more

-- the steps to come
abbrev pub steps_left : LinkState → List LinkStep
steps_left link = without link.offset (drop link.place link.given)

-- a link in memory tells all that a link can tell
abbrev pub link_told : LinkState → LinkTold
link_told link = record {
  given = Some link.given;
  left = Some (steps_left link);
  taken = link.taken;
  bytes = Some link.bytes;
  faults = link.faults;
}

-- no step was taken, and the list is told
abbrev pub none_taken : Option (List Step) → Bool
none_taken None = false
none_taken (Some []) = true
none_taken (Some (step ∷ more)) = false

-- the link is as it was made
abbrev pub is_new_link : LinkState → Bool
is_new_link link = (link.place == 0) && ((link.offset == 0) && (none_taken link.taken
    && ((length link.bytes == 0) && (link.faults == 0))))

-- a link that is to take these steps and has not been called
pub record IsMadeOf (link : LinkState) (steps : List LinkStep) (fails : List ℕ)
    (torn : List (ℕ × ℕ)) : Type 0 where
  pub given : link.given ≡ steps
  pub place : link.place ≡ 0
  pub offset : link.offset ≡ 0
  pub taken : link.taken ≡ Some []
  pub bytes : link.bytes ≡ []
  pub fails_are : link.fails ≡ fails
  pub torn_are : link.torn ≡ torn
  pub calls : link.calls ≡ 0
  pub writes : link.writes ≡ 0
  pub faults : link.faults ≡ 0

-- one more call was counted, and nothing changed that a read leaves alone
pub record IsReadOf (old new : LinkState) : Type 0 where
  pub given : new.given ≡ old.given
  pub bytes : new.bytes ≡ old.bytes
  pub fails : new.fails ≡ old.fails
  pub torn : new.torn ≡ old.torn
  pub calls : new.calls ≡ next_count old.calls
  pub writes : new.writes ≡ old.writes
  pub room : new.room ≡ old.room

-- a call of this answer counts a fault where it failed
abbrev pub faults_after : Got → ℕ → ℕ
faults_after (got.Bytes n) faults = faults
faults_after got.Idle faults = faults
faults_after got.End faults = faults
faults_after got.Failed faults = next_count faults

-- the next write is to fail
abbrev pub link_fails : LinkState → Bool
link_fails link = write_fails link.calls link.writes link.fails link.torn

-- what the next write takes of the piece, with memory at hand
abbrev pub link_takes : LinkState → List ℕ → List ℕ
link_takes link = write_takes link.calls link.writes link.fails link.torn

-- nothing changed but the bytes, the steps taken and the counts
pub record IsWriteOf (old new : LinkState) : Type 0 where
  pub given : new.given ≡ old.given
  pub place : new.place ≡ old.place
  pub offset : new.offset ≡ old.offset
  pub fails : new.fails ≡ old.fails
  pub torn : new.torn ≡ old.torn
  pub calls : new.calls ≡ next_count old.calls
  pub writes : new.writes ≡ next_count old.writes
