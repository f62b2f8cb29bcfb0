-- The choice of a base, of all bases at once.
use Rattle.std.specs.Prelude.{◌≡◌, ℕ, ◌+◌, ◌-◌, ◌*◌, ◌<◌, ◌≤◌, ◌==◌, nat_lt, if◌then◌else◌, List, [], ◌∷◌, length, map, slice_index, position, Option, Some, None}
use Rattle.gga_read.specs.declared.Position.{Position}
use Rattle.base_select.specs.declared.Base.{Base}
use Rattle.base_select.specs.Measure.{measure_of}

-- the measures of the bases, in the order of the list
abbrev pub measures : Position → List Base → List ℕ
measures rover bases = map (λ base. measure_of rover base.at) bases

-- the numbers of the bases' mountpoints, in the order of the list
abbrev pub mounts : List Base → List ℕ
mounts bases = map (λ base. base.mount) bases

-- the place of the least of these measures, of equal ones the first
pub record IsNearest (all : List ℕ) (n : ℕ) : Type 0 where
  pub within : n < length all
  pub least : (k : ℕ) → k < length all → slice_index all n ≤ slice_index all k
  pub first : (k : ℕ) → k < n → slice_index all n < slice_index all k

-- the same as a function. Of the measures from this place on, the place of one that is below the
-- least so far, the last such one; the best place so far where none is
abbrev pub nearest_from : ℕ → ℕ → ℕ → List ℕ → ℕ
nearest_from best least place [] = best
nearest_from best least place (measure ∷ more) =
    if nat_lt measure least then nearest_from place measure (place + 1) more
    else nearest_from best least (place + 1) more

abbrev pub nearest_of : List ℕ → ℕ
nearest_of [] = 0
nearest_of (measure ∷ more) = nearest_from 0 measure 1 more

-- the place of the rover's present base, if it has one that is in the list
abbrev pub place_of : Option ℕ → List Base → Option ℕ
place_of None bases = None
place_of (Some mount) bases = position (λ base. base.mount == mount) bases

-- the place that is chosen of the nearest and the present one: the nearest where it beats the
-- present one by the hysteresis, h percent of the distance
abbrev pub chosen : List ℕ → ℕ → ℕ → Option ℕ → ℕ
chosen all h nearest None = nearest
chosen all h nearest (Some present) =
    if nat_lt (slice_index all nearest * 10000)
    (slice_index all present * (100 - h) * (100 - h))
    then nearest else present

-- the base that a rover takes: the one chosen of the nearest and the present one
pub record IsChoice (current : Option ℕ) (rover : Position) (bases : List Base) (h mount : ℕ)
    : Type 0 where
  pub nearest : ℕ
  pub is_nearest : IsNearest (measures rover bases) nearest
  pub is_chosen : mount ≡ slice_index (mounts bases)
      (chosen (measures rover bases) h nearest (place_of current bases))

-- the same as a function: none where there are no bases
abbrev pub choice_of : Option ℕ → Position → List Base → ℕ → Option ℕ
choice_of current rover [] h = None
choice_of current rover (base ∷ bases) h =
    let all = measures rover (base ∷ bases) in
    Some (slice_index (mounts (base ∷ bases))
    (chosen all h (nearest_of all) (place_of current (base ∷ bases))))
