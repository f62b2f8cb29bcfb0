-- The first place at which a path stands holds its content.
use Rattle.std.proofs.Common.{◌≡◌, ℕ, zero, suc, ◌+◌, List, [], ◌∷◌, Bool, true, false, cond, Option, None, Some, option_map, MatchOption, refl, subst, sym, ◌∙◌, zero-add, ap, arith}
use Rattle.std.specs.List.{find, position, position_from}
use Rattle.std.proofs.lemmas.Iterator.Adapters.{position_from-zero}
use Rattle.std.specs.Str.{bytes_eq}
use Rattle.cast_io.specs.Stores.{content_of}
use Rattle.cast_io.specs.FakeStores.{content_at}

-- among these files, numbered from `first`, the one at this place has this content
abbrev IsFoundIn : List (List ℕ × List ℕ) → ℕ → Option (List ℕ) → Option ℕ → Type 0
IsFoundIn files first content place = MatchOption place (content ≡ None)
    (λ at. (k : ℕ) × (at ≡ first + k) × (content ≡ Some (content_at files (Some k))))

found_by : (b : Bool) (file : List ℕ × List ℕ) (files : List (List ℕ × List ℕ)) (first : ℕ)
    (rest : Option (List ℕ × List ℕ)) (place : Option ℕ)
    → IsFoundIn files (first + 1) (option_map (λ f. f.1) rest) place
    → IsFoundIn (file ∷ files) first (option_map (λ f. f.1) (cond b (Some file) rest))
    (cond b (Some first) place)
found_by true file files first rest place found = (zero, omega arith, refl)
found_by false file files first rest None found = found
found_by false file files first rest (Some at) found = (suc found.0, omega (arith, found.1), found.2)

found_from : (files : List (List ℕ × List ℕ)) (path : List ℕ) (first : ℕ)
    → IsFoundIn files first (content_of files path)
    (position_from (λ file. bytes_eq file.0 path) first files)
found_from [] path first = refl
found_from (file ∷ files) path first =
    found_by (bytes_eq file.0 path) file files first (find (λ f. bytes_eq f.0 path) files)
    (position_from (λ f. bytes_eq f.0 path) (first + 1) files)
    (found_from files path (first + 1))

from_zero : (files : List (List ℕ × List ℕ)) (content : Option (List ℕ)) (place : Option ℕ)
    → IsFoundIn files 0 content place
    → MatchOption place (content ≡ None) (λ at. content ≡ Some (content_at files (Some at)))
from_zero files content None found = found
from_zero files content (Some at) found =
    found.2 ∙ ap (λ k. Some (content_at files (Some k))) (sym (found.1 ∙ zero-add found.0))

pub found_at : (files : List (List ℕ × List ℕ)) (path : List ℕ) (place : Option ℕ)
    → place ≡ position (λ file. bytes_eq file.0 path) files
    → MatchOption place (content_of files path ≡ None)
    (λ at. content_of files path ≡ Some (content_at files (Some at)))
found_at files path place is =
    from_zero files (content_of files path) place
    (subst (IsFoundIn files 0 (content_of files path))
    (sym (is ∙ position_from-zero (λ file. bytes_eq file.0 path) files))
    (found_from files path 0))
