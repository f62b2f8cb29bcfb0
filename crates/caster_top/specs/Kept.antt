-- What a call leaves as it was of the things that it works on: a store, an input, a street and an
-- output. Each is given by what it tells: functions of it.
use Rattle.std.specs.Prelude.{◌≡◌, ◌≢◌, ℕ, ◌+◌, ◌*◌, ◌≤◌, List, length, Option}
use Rattle.cast_io.specs.Pieces.{Loses}
use Rattle.cast_io.specs.Told.{StoreTold, StreetTold}
use Rattle.caster_top.specs.Command.{AskNoStreet, NameNoFile, ReadNoInput, files_of, form_of}
use Rattle.caster_top.specs.Casting.{IsUnserved}

-- a store keeps its files, is read so many times at most, and its count of faults does not fall
pub record KeepsFiles {Store : Type 0} (told : Store → StoreTold) (faults_of reads_of : Store → ℕ)
    (most : ℕ) (old new : Store) : Type 0 where
  pub files : (told new).files ≡ (told old).files
  pub few : reads_of new ≤ reads_of old + most
  pub faults : faults_of old ≤ faults_of new

-- What a call for these words leaves of a store: all of it, where they name no file. Its files
-- stay, each file that the words name is read 8 MiB and two times more at most, and the count of
-- faults does not fall.
pub record LeavesStore {Store : Type 0} (told : Store → StoreTold) (faults_of reads_of : Store → ℕ)
    (words : List (List ℕ)) (old new : Store) : Type 0 where
  pub unasked : NameNoFile words → new ≡ old
  pub files : (told new).files ≡ (told old).files
  pub few : reads_of new ≤ reads_of old + 8388610 * length (files_of (form_of words))
  pub faults : faults_of old ≤ faults_of new

-- What a call for these words leaves of an input: all of it, where they read none. It is read at
-- most once more than bytes came, and the count of faults does not fall.
pub record LeavesInput {Input : Type 0} (left : Input → Option (List ℕ))
    (faults_of reads_of : Input → ℕ) (words : List (List ℕ)) (old new : Input) : Type 0 where
  pub unread : ReadNoInput words → new ≡ old
  pub reads : Loses (λ came. reads_of new ≤ reads_of old + length came + 1) (left old) (left new)
  pub faults : faults_of old ≤ faults_of new

-- What a call for these words that ends with this status leaves of a street: all of it, where they
-- ask it for nothing; what it tells, where the status says that there was no caster; and the count
-- of faults does not fall.
pub record LeavesStreet {Street : Type 0} (told : Street → StreetTold) (words : List (List ℕ))
    (status : ℕ) (old new : Street) : Type 0 where
  pub alone : AskNoStreet words → new ≡ old
  pub unserved : IsUnserved status → told new ≡ told old
  pub faults : (told old).faults ≤ (told new).faults

-- What a call that ends with this status leaves of an output's count of faults: it does not fall,
-- and only with 5 it is another than before.
pub record LeavesOutput (before now status : ℕ) : Type 0 where
  pub unharmed : status ≢ 5 → now ≡ before
  pub faults : before ≤ now
