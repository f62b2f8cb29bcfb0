-- Lines that were put, by their texts.
use Rattle.std.proofs.Common.{◌≡◌, ◌∙◌, ◌<◌, ◌≤◌, ◌+◌, ℕ, zero, suc, List, [], ◌∷◌, ◌++◌, map, length, take, get_or, refl, sym, ap, arith}
use Rattle.std.specs.List.{flat_map}
use Rattle.std.proofs.lemmas.List.{append-nil, map-append, take_more}
use Rattle.std.proofs.lemmas.Grind.{flat_map-append}
use Rattle.turn_log.specs.History.{History}
use Rattle.caster_press.specs.declared.line.Line.{Line}
use Rattle.caster_press.specs.Lines.{text_of}
use Rattle.caster_press.specs.Places.{HasPut}
use Rattle.caster_press.proofs.PlaceLemmas.{put_none, put_then}
use Rattle.keep_lines.specs.Puts.{HasTold}

-- nothing was told
pub told_none : (me : ℕ) (old new : History Line) → new ≡ old → HasTold me [] old new
told_none me old new same = record { lines = []; texts_are = refl; put = put_none me old new same }

-- one line was told
pub told_one : (me : ℕ) (line : Line) (old new : History Line) → HasPut me (line ∷ []) old new
    → HasTold me (text_of line ∷ []) old new
told_one me line old new put = record { lines = line ∷ []; texts_are = refl; put = put }

-- these were told, and then those
pub told_then : (me : ℕ) (first second : List (List ℕ)) (old mid new : History Line) → HasTold me first old mid
    → HasTold me second mid new → HasTold me (first ++ second) old new
told_then me first second old mid new a b = record {
  lines = a.lines ++ b.lines;
  texts_are = map-append text_of a.lines b.lines ∙ ap (λ l. l ++ map text_of b.lines) a.texts_are
      ∙ ap (λ l. first ++ l) b.texts_are;
  put = put_then me a.lines b.lines old mid new a.put b.put;
}

-- the same by other names
pub told_as : (me : ℕ) (a b : List (List ℕ)) (old new : History Line) → a ≡ b → HasTold me a old new
    → HasTold me b old new
told_as me a b old new same told = record { lines = told.lines; texts_are = told.texts_are ∙ same; put = told.put }

-- ---- the lines of a list, one item after the other

-- the lines of one item more
pub told_next : {X : Type 0} (me : ℕ) (f : X → List (List ℕ)) (xs : List X) (i : ℕ) (d x : X)
    → i < length xs → x ≡ get_or xs i d → (old mid new : History Line)
    → HasTold me (flat_map f (take i xs)) old mid → HasTold me (f x) mid new
    → HasTold me (flat_map f (take (i + 1) xs)) old new
told_next {X} me f xs i d x within is old mid new so_far one =
    let before = flat_map f (take i xs) in
    told_as me (before ++ f x) (flat_map f (take (i + 1) xs)) old new
    (ap (λ (l : List (List ℕ)). before ++ l) (sym (append-nil (f x)))
    ∙ sym (flat_map-append f (take i xs) (x ∷ []))
    ∙ ap (λ (y : X). flat_map f (take i xs ++ y ∷ [])) is
    ∙ ap (λ (l : List X). flat_map f l) (sym (take_more xs i d within)))
    (told_then me before (f x) old mid new so_far one)

take_all : {X : Type 0} (xs : List X) (i : ℕ) → length xs ≤ i → take i xs ≡ xs
take_all [] zero all = refl
take_all [] (suc i) all = refl
take_all (x ∷ xs) zero all = absurd (omega (arith, all))
take_all (x ∷ xs) (suc i) all = ap (λ l. x ∷ l) (take_all xs i (omega (arith, all)))

-- the lines of all items
pub told_all : {X : Type 0} (me : ℕ) (f : X → List (List ℕ)) (xs : List X) (i : ℕ)
    → length xs ≤ i → (old new : History Line) → HasTold me (flat_map f (take i xs)) old new
    → HasTold me (flat_map f xs) old new
told_all {X} me f xs i all old new told =
    told_as me (flat_map f (take i xs)) (flat_map f xs) old new
    (ap (λ (l : List X). flat_map f l) (take_all xs i all)) told

-- a line for each item
pub one_each : {X : Type 0} (f : X → List ℕ) (xs : List X) → flat_map (λ (x : X). f x ∷ []) xs ≡ map f xs
one_each f [] = refl
one_each f (x ∷ xs) = ap (λ l. f x ∷ l) (one_each f xs)

-- one line was told, and then those
pub told_behind : (me : ℕ) (first : List ℕ) (second : List (List ℕ)) (old mid new : History Line)
    → HasTold me (first ∷ []) old mid → HasTold me second mid new → HasTold me (first ∷ second) old new
told_behind me first second old mid new a b = told_then me (first ∷ []) second old mid new a b
