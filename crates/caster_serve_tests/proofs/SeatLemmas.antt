-- The last ring of a caster's places has a filter.
use Rattle.std.proofs.Common.{◌≡◌, ◌∙◌, ◌≤◌, ◌<◌, ◌+◌, ◌++◌, ℕ, List, [], ◌∷◌, length, map, sym, ap, arith, drop, get_or}
use Rattle.std.proofs.lemmas.List.{length-map, map-append}
use Rattle.mount_ring.specs.declared.shape.RingShape.{RingShape}
use Rattle.cast_config.specs.declared.config.Config.{Config}
use Rattle.cast_config.specs.declared.config.Group.{Group}
use Rattle.cast_config.specs.declared.config.Mount.{Mount}
use Rattle.cast_config.specs.Kept.{KeepsRules}
use Rattle.cast_config.specs.Served.{filter_for}
use Rattle.cast_config.proofs.KeptLemmas.{within}
use Rattle.session_model.specs.Setting.{shapes, shapes_from}

-- as many filters as groups
filters_long : (groups : List Group) (n : ℕ) (front : List RingShape) (shape : RingShape) (mounts : List Mount)
    → front ++ shape ∷ [] ≡ shapes_from groups n mounts → length shape.filters ≡ length groups
filters_long groups n [] shape [] same = absurd (omega (arith, ap length same))
filters_long groups n [] shape (mount ∷ more) same =
    ap (λ (l : List RingShape). length (get_or l 0 shape).filters) same
    ∙ length-map groups (λ (g : Group). filter_for n g.types g.filter)
filters_long groups n (first ∷ front) shape [] same = absurd (omega (arith, ap length same))
filters_long groups n (first ∷ front) shape (mount ∷ more) same =
    filters_long groups (n + 1) front shape more (ap (drop 1) same)

pub some_filter : {P : Type 0} (tell : P → RingShape) (c : Config) (rings front : List P) (last : P)
    → ((cap : ℕ) × KeepsRules cap c) → map tell rings ≡ shapes c → rings ≡ front ++ last ∷ []
    → 0 < length (tell last).filters
some_filter tell c rings front last kept fit is =
    let long : length (tell last).filters ≡ length c.group =
    filters_long c.group 0 (map tell front) (tell last) c.mount
    (sym (ap (map tell) is ∙ map-append tell front (last ∷ [])) ∙ fit) in
    let some : 1 ≤ length c.group = (within 1 64 (length c.group) kept.1.count_groups).0 in
    omega (arith, long, some)
