-- The filters of one more mountpoint.
use Rattle.std.proofs.Common.{◌≡◌, ℕ, ◌+◌, ◌<◌, List, [], ◌∷◌, ◌++◌, length, get_or, map, sym, ap, ◌∙◌, zero-add}
use Rattle.std.specs.List.{range_with_len}
use Rattle.std.proofs.lemmas.List.FromFn.{map-range_with_len_more, length-map-range_with_len, get_or-map-range_with_len}
use Rattle.type_filter.specs.Permitted.{FilterValue}
use Rattle.cast_config.specs.declared.config.Group.{Group}
use Rattle.cast_config.specs.declared.config.Mount.{Mount}
use Rattle.cast_config.specs.Served.{filters_of, all_filters}

pub filters_more : (groups : List Group) (n : ℕ) (done all : List (List FilterValue)) (next : List FilterValue)
    → all ≡ done ++ next ∷ [] → done ≡ map (filters_of groups) (range_with_len 0 n) → next ≡ filters_of groups n
    → all ≡ map (filters_of groups) (range_with_len 0 (n + 1))
filters_more groups n done all next push before here =
    push
    ∙ ap (λ (fs : List (List FilterValue)). fs ++ next ∷ []) before
    ∙ ap (λ (f : List FilterValue). map (filters_of groups) (range_with_len 0 n) ++ f ∷ []) here
    ∙ sym (map-range_with_len_more (filters_of groups) 0 n n (zero-add n))

pub filters_length : (mounts : List Mount) (groups : List Group) → length (all_filters mounts groups) ≡ length mounts
filters_length mounts groups = length-map-range_with_len (filters_of groups) 0 (length mounts)

pub filters_index : (mounts : List Mount) (groups : List Group) (m : ℕ) (other : List FilterValue) → m < length mounts
    → get_or (all_filters mounts groups) m other ≡ filters_of groups m
filters_index mounts groups m other within = get_or-map-range_with_len (filters_of groups) 0 (length mounts) m m other
    within (zero-add m)
