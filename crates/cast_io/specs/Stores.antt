-- What the opening of a file does to what a store tells.
use Rattle.std.specs.Prelude.{ℕ, ◌≡◌, List, [], ◌∷◌, Option, Some, Result, option_map, OnOk, OnErr}
use Rattle.std.specs.List.{find}
use Rattle.std.specs.Str.{bytes_eq}
use Rattle.cast_io.specs.Told.{StoreTold, Grew}

-- what the first file of this path holds; a file is a pair of path and content
abbrev pub content_of : List (List ℕ × List ℕ) → List ℕ → Option (List ℕ)
content_of files path = option_map (λ file. file.1) (find (λ file. bytes_eq file.0 path) files)

-- where it is told what is left to read, it is nothing
abbrev pub NoneLeft : Option (List ℕ) → Type 0
NoneLeft left = (bytes : List ℕ) → left ≡ Some bytes → bytes ≡ []

-- where the files are told, one of them has this path, and all that it holds is left to read
abbrev pub IsOpen : List ℕ → Option (List (List ℕ × List ℕ)) → Option (List ℕ) → Type 0
IsOpen path files left = (list : List (List ℕ × List ℕ)) → files ≡ Some list
    → (content : List ℕ) × (content_of list path ≡ Some content) × (left ≡ Some content)

-- the store was asked for this path, and told so, also where it refused; `left` is what is left to
-- read after it
pub record HasOpened {T E : Type 0} (path : List ℕ) (old new : StoreTold) (left : Option (List ℕ))
    (result : Result T E) : Type 0 where
  pub asked : Grew old.asked new.asked (path ∷ [])
  pub files : new.files ≡ old.files
  pub ok : OnOk result (IsOpen path old.files left)
  pub err : OnErr result (NoneLeft left)
