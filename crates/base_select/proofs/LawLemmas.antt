-- Laws of the choice.
use Rattle.std.proofs.Common.{◌≡◌, ℕ, ◌<◌, ◌≤◌, ◌*◌, ◌-◌, Bool, eqb, ltb, List, length, get_or, Option, Some, None, IfSome, refl, ap, sym, ◌∙◌, arith, inl, inr}
use Rattle.std.specs.Prelude.{position, slice_index, pos}
use Rattle.std.proofs.lemmas.Bool.{cases_lt, cases_Bool, lt-ltb, le-ltb}
use Rattle.std.proofs.lemmas.List.{length-map}
use Rattle.std.proofs.lemmas.List.Quantifiers.{position-Some}
use Rattle.gga_read.specs.declared.Position.{Position}
use Rattle.base_select.specs.declared.Base.{Base}
use Rattle.base_select.specs.Measure.{measure_of}
use Rattle.base_select.specs.Choice.{measures, mounts, IsNearest, place_of, chosen, IsChoice}

pub nearest_unique : (all : List ℕ) (m n : ℕ) → IsNearest all m → IsNearest all n → m ≡ n
nearest_unique all m n a b =
    elim (cases_lt m n) [
      | inl lt ↦ absurd (omega (arith, b.first m lt, a.least n b.within))
      | inr le ↦ elim (cases_lt n m) [
        | inl lt ↦ absurd (omega (arith, a.first n lt, b.least m a.within))
        | inr ge ↦ omega arith
      ]
    ]

-- some base
any_base : Base
any_base = record { mount = 0; at = record { lat = pos 0; lon = pos 0 } }

of_place : (p : Base → Bool) (bases : List Base) (found : Option ℕ) → position p bases ≡ found
    → IfSome found (λ k. k < length bases)
of_place p bases None e = tt
of_place p bases (Some k) e = (position-Some p bases k any_base e).0

place_within : (current : Option ℕ) (bases : List Base) → IfSome (place_of current bases) (λ k. k < length bases)
place_within None bases = tt
place_within (Some m) bases = of_place (λ base. eqb base.mount m) bases (place_of (Some m) bases) refl

chosen_within : (all : List ℕ) (h nearest : ℕ) (present : Option ℕ) (size : ℕ) → nearest < size
    → IfSome present (λ k. k < size)
    → chosen all h nearest present < size
chosen_within all h nearest None size near here = near
chosen_within all h nearest (Some k) size near here =
    elim (cases_Bool (ltb (get_or all nearest 0 * 10000) (get_or all k 0 * (100 - h) * (100 - h)))) [
      | inl beats ↦ rw beats near
      | inr stays ↦ rw stays here
    ]

pub among : (current : Option ℕ) (rover : Position) (bases : List Base) (h mount : ℕ)
    → IsChoice current rover bases h mount
    → (n : ℕ) × (n < length bases) × (mount ≡ slice_index (mounts bases) n)
among current rover bases h mount c =
    let size : length (measures rover bases) ≡ length bases = length-map bases (λ base. measure_of rover base.at) in
    let near : c.nearest < length bases = omega (arith, size, c.is_nearest.within) in (
      chosen (measures rover bases) h c.nearest (place_of current bases),
      chosen_within (measures rover bases) h c.nearest (place_of current bases) (length bases) near
          (place_within current bases),
      c.is_chosen,
    )

pub only : (current : Option ℕ) (rover : Position) (bases : List Base) (h a b : ℕ) → IsChoice current rover bases h a
    → IsChoice current rover bases h b → a ≡ b
only current rover bases h a b c d =
    c.is_chosen
    ∙ ap (λ (n : ℕ). slice_index (mounts bases) (chosen (measures rover bases) h n (place_of current bases)))
    (nearest_unique (measures rover bases) c.nearest d.nearest c.is_nearest d.is_nearest)
    ∙ sym d.is_chosen

pub without : (rover : Position) (bases : List Base) (h mount : ℕ) → IsChoice None rover bases h mount
    → (n : ℕ) × IsNearest (measures rover bases) n × (mount ≡ slice_index (mounts bases) n)
without rover bases h mount c = (c.nearest, c.is_nearest, c.is_chosen)

pub elsewhere : (present : ℕ) (rover : Position) (bases : List Base) (h mount : ℕ)
    → place_of (Some present) bases ≡ None
    → IsChoice (Some present) rover bases h mount → IsChoice None rover bases h mount
elsewhere present rover bases h mount none c = record {
  nearest = c.nearest;
  is_nearest = c.is_nearest;
  is_chosen = c.is_chosen
      ∙ ap (λ (place : Option ℕ). slice_index (mounts bases) (chosen (measures rover bases) h c.nearest place)) none;
}

-- what is chosen of the nearest and the present base, where the places are known
of_places : (present place near : ℕ) (rover : Position) (bases : List Base) (h mount : ℕ)
    → place_of (Some present) bases ≡ Some place
    → IsNearest (measures rover bases) near → IsChoice (Some present) rover bases h mount
    → mount ≡ slice_index (mounts bases) (chosen (measures rover bases) h near (Some place))
of_places present place near rover bases h mount at nearest c =
    c.is_chosen
    ∙ ap (λ (p : Option ℕ). slice_index (mounts bases) (chosen (measures rover bases) h c.nearest p)) at
    ∙ ap (λ (n : ℕ). slice_index (mounts bases) (chosen (measures rover bases) h n (Some place)))
    (nearest_unique (measures rover bases) c.nearest near c.is_nearest nearest)

-- the nearest is chosen where it beats the present one
nearest_chosen : (all : List ℕ) (h near place : ℕ)
    → get_or all near 0 * 10000 < get_or all place 0 * (100 - h) * (100 - h) → chosen all h near (Some place) ≡ near
nearest_chosen all h near place beats =
    rw (lt-ltb (get_or all near 0 * 10000) (get_or all place 0 * (100 - h) * (100 - h)) beats) refl

-- and else the present one
present_chosen : (all : List ℕ) (h near place : ℕ)
    → get_or all place 0 * (100 - h) * (100 - h) ≤ get_or all near 0 * 10000 → chosen all h near (Some place) ≡ place
present_chosen all h near place kept =
    rw (le-ltb (get_or all near 0 * 10000) (get_or all place 0 * (100 - h) * (100 - h)) kept) refl

pub leaves : (present place near : ℕ) (rover : Position) (bases : List Base) (h mount : ℕ)
    → place_of (Some present) bases ≡ Some place
    → IsNearest (measures rover bases) near
    → slice_index (measures rover bases) near * 10000 < slice_index (measures rover bases) place * (100 - h) * (100 - h)
    → IsChoice (Some present) rover bases h mount → mount ≡ slice_index (mounts bases) near
leaves present place near rover bases h mount at nearest beats c =
    of_places present place near rover bases h mount at nearest c
    ∙ ap (slice_index (mounts bases)) (nearest_chosen (measures rover bases) h near place beats)

pub stays : (present place near : ℕ) (rover : Position) (bases : List Base) (h mount : ℕ)
    → place_of (Some present) bases ≡ Some place
    → IsNearest (measures rover bases) near
    → slice_index (measures rover bases) place * (100 - h) * (100 - h) ≤ slice_index (measures rover bases) near * 10000
    → IsChoice (Some present) rover bases h mount → mount ≡ slice_index (mounts bases) place
stays present place near rover bases h mount at nearest kept c =
    of_places present place near rover bases h mount at nearest c
    ∙ ap (slice_index (mounts bases)) (present_chosen (measures rover bases) h near place kept)
