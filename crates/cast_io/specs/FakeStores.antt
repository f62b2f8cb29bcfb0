-- What contracts see of a store in memory.
use Rattle.std.specs.Prelude.{ℕ, ◌≡◌, ◌||◌, not, List, [], Bool, Option, None, Some, is_some, unwrap_or, option_map, slice_get}
use Rattle.cast_io.specs.Causes.{next_count}
use Rattle.cast_io.specs.Fakes.{SourceState, fails_next}
use Rattle.cast_io.specs.Told.{StoreTold}
use Rattle.cast_io.specs.Stores.{content_of}

-- a store in memory: its files as pairs of path and content, what is left to read of the one that
-- is open, the paths that it was asked for while they are told, the numbers of the calls that are
-- to fail, how many calls and, among them, reads were made, and how many faults there were
pub record StoreState : Type 0 where
  pub files : List (List ℕ × List ℕ)
  pub left : List ℕ
  pub asked : Option (List (List ℕ))
  pub fails : List ℕ
  pub calls : ℕ
  pub reads : ℕ
  pub faults : ℕ

-- a store in memory tells all that a store can tell
abbrev pub store_told : StoreState → StoreTold
store_told store = record { asked = store.asked; files = Some store.files }

-- the file that is open, as a source of its own
abbrev pub open_file : StoreState → SourceState
open_file store = record {
  left = store.left;
  fails = store.fails;
  calls = store.calls;
  faults = store.faults;
}

-- what the file at this place holds; nothing where none is open
abbrev pub content_at : List (List ℕ × List ℕ) → Option ℕ → List ℕ
content_at files None = []
content_at files (Some place) = unwrap_or (option_map (λ file. file.1) (slice_get files place)) []

-- a store of these files that was not called yet
pub record IsStoreOf (store : StoreState) (files : List (List ℕ × List ℕ)) (fails : List ℕ)
    : Type 0 where
  pub files_are : store.files ≡ files
  pub left : store.left ≡ []
  pub asked : store.asked ≡ Some []
  pub fails_are : store.fails ≡ fails
  pub calls : store.calls ≡ 0
  pub reads : store.reads ≡ 0
  pub faults : store.faults ≡ 0

-- the next open of this path fails: it is told to, or no file has the path
abbrev pub open_is_refused : StoreState → List ℕ → Bool
open_is_refused store path =
    fails_next store.calls store.fails || not (is_some (content_of store.files path))

-- one more call was counted, which is no read, and nothing changed that an open leaves alone
pub record IsOpenOf (old new : StoreState) : Type 0 where
  pub files : new.files ≡ old.files
  pub fails : new.fails ≡ old.fails
  pub calls : new.calls ≡ next_count old.calls
  pub reads : new.reads ≡ old.reads
