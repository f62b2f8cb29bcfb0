-- What a list is that is told before and after, where both are logs.
use Rattle.std.proofs.Common.{◌≡◌, ℕ, List, [], ◌∷◌, ◌++◌, map, Option, Some, unwrap_or, refl, ap, sym, ◌∙◌}
use Rattle.cast_io.specs.declared.steps.SourceStep.TheVariants as steps
use Rattle.cast_io.specs.Logged.{LinkLog, DoorLog, link_logged, door_logged}
use Rattle.cast_io.specs.Logs.{GaveAll, GaveFile, pieces_given}
use Rattle.cast_io.specs.Told.{LinkTold, DoorTold, Grew}
use Rattle.caster_logged.specs.Inputs.{Steps, HasRead, HasReadFile}

-- what is told is this list
pub some_is : {X : Type 0} (a b : List X) → Some a ≡ Some b → a ≡ b
some_is a b same = ap (λ told. unwrap_or told []) same

-- ---- a list that grew

pub grew_from : {X : Type 0} (told : Option (List X)) (now items : List X) → Grew told (Some now) items
    → (before : List X) × (told ≡ Some before) × (now ≡ before ++ items)
grew_from told now items grew = grew now refl

pub grew_by : {X : Type 0} (before now items : List X) → Grew (Some before) (Some now) items
    → now ≡ before ++ items
grew_by before now items grew =
    let from = grew now refl in from.2 ∙ ap (λ l. l ++ items) (sym (some_is before from.0 from.1))

-- ---- a list of images

pub cons_head : {X : Type 0} (x y : X) (xs ys : List X) → x ∷ xs ≡ y ∷ ys → x ≡ y
cons_head x y xs ys same = cc

pub cons_tail : {X : Type 0} (x y : X) (xs ys : List X) → x ∷ xs ≡ y ∷ ys → xs ≡ ys
cons_tail x y xs ys same = cc

-- both parts of a list of images are lists of images
pub map_parts : {X Y : Type 0} (f : X → Y) (all : List X) (first last : List Y) → map f all ≡ first ++ last
    → (a b : List X) × (all ≡ a ++ b) × (first ≡ map f a) × (last ≡ map f b)
map_parts f all [] last same = ([], all, refl, refl, sym same)
map_parts f [] (y ∷ first) last same = absurd cc
map_parts f (x ∷ all) (y ∷ first) last same =
    let rest = map_parts f all first last (cons_tail (f x) y (map f all) (first ++ last) same) in
    let head : f x ≡ y = cons_head (f x) y (map f all) (first ++ last) same in (
      x ∷ rest.0,
      rest.1,
      ap (λ l. x ∷ l) rest.2,
      ap (λ l. y ∷ l) rest.3 ∙ ap (λ z. z ∷ map f rest.0) (sym head),
      rest.4,
    )

-- images under what has a way back are equal only where their lists are
pub map_back : {X Y : Type 0} (f : X → Y) (back : Y → X) → ((x : X) → back (f x) ≡ x) → (xs : List X)
    → map back (map f xs) ≡ xs
map_back f back is [] = refl
map_back f back is (x ∷ xs) = ap (λ y. y ∷ map back (map f xs)) (is x) ∙ ap (λ l. x ∷ l) (map_back f back is xs)

pub map_same : {X Y : Type 0} (f : X → Y) (back : Y → X) → ((x : X) → back (f x) ≡ x) → (xs ys : List X)
    → map f xs ≡ map f ys → xs ≡ ys
map_same f back is xs ys same =
    sym (map_back f back is xs) ∙ ap (map back) same ∙ map_back f back is ys

-- what a list of images grew by is a list of images
pub map_grew : {X Y : Type 0} (f : X → Y) (back : Y → X) → ((x : X) → back (f x) ≡ x) → (before now : List X)
    (items : List Y) → Grew (Some (map f before)) (Some (map f now)) items
    → (more : List X) × (now ≡ before ++ more) × (items ≡ map f more)
map_grew f back is before now items grew =
    let parts = map_parts f now (map f before) items (grew_by (map f before) (map f now) items grew) in
    let same : before ≡ parts.0 = map_same f back is before parts.0 parts.3 in
    (parts.1, parts.2 ∙ ap (λ l. l ++ parts.1) (sym same), parts.4)

-- ---- links and doors

abbrev pub link_back : LinkTold → LinkLog
link_back told = record {
  taken = unwrap_or told.taken [];
  bytes = unwrap_or told.bytes [];
  faults = told.faults;
}

abbrev pub door_back : DoorTold → DoorLog
door_back told = record { back = map link_back (unwrap_or told.back []); faults = told.faults }

pub link_is : (link : LinkLog) → link_back (link_logged link) ≡ link
link_is link = refl

abbrev door_of : List LinkLog → ℕ → DoorLog
door_of back faults = record { back = back; faults = faults }

pub door_is : (door : DoorLog) → door_back (door_logged door) ≡ door
door_is door = ap (λ back. door_of back door.faults) (map_back link_logged link_back link_is door.back)

-- ---- inputs and files

pub gave_read : (old new : Steps) (bytes : List ℕ) → GaveAll (Some old) (Some new) bytes → HasRead old new bytes
gave_read old new bytes gave =
    (gave.0, gave.1, grew_by old new (pieces_given gave.0 ++ steps.End ∷ []) gave.2)

pub gave_read_file : (path : List ℕ) (old new : Steps) (bytes : List ℕ) → GaveFile path (Some old) (Some new) bytes
    → HasReadFile old new path bytes
gave_read_file path old new bytes gave = (gave.0, gave.1, gave.2, gave.3, grew_by old new _ gave.4)
