-- The rings of a configuration, one after the other.
use Rattle.std.proofs.Common.{◌≡◌, ◌∙◌, ◌+◌, ◌<◌, ◌≤◌, ℕ, zero, suc, true, IsTrue, List, [], ◌∷◌, ◌++◌, map, take, length, get_or, refl, sym, ap, arith}
use Rattle.std.proofs.lemmas.List.{map-append, take_all}
use Rattle.mount_ring.specs.declared.shape.RingShape.{RingShape}
use Rattle.type_filter.specs.Permitted.{FilterValue}
use Rattle.cast_config.specs.declared.config.Config.{Config}
use Rattle.cast_config.specs.declared.config.Mount.{Mount}
use Rattle.cast_config.specs.declared.config.Group.{Group}
use Rattle.cast_config.specs.Served.{filters_of}
use Rattle.session_model.specs.Setting.{shapes, shapes_from}
use Rattle.session_model.specs.Called.{alone_at}
use Rattle.session_core.proofs.HeldLemmas.{length_shapes}

abbrev ring_of : List Group → ℕ → Mount → RingShape
ring_of groups n mount = record { capacity = mount.ring; filters = filters_of groups n }

one_more : (groups : List Group) (n : ℕ) (mounts : List Mount) (i : ℕ) (d : Mount) → i < length mounts
    → take (suc i) (shapes_from groups n mounts)
    ≡ take i (shapes_from groups n mounts) ++ ring_of groups (n + i) (get_or mounts i d) ∷ []
one_more groups n [] i d within = absurd (omega (arith, within))
one_more groups n (mount ∷ mounts) zero d within =
    let same : n ≡ n + 0 = omega arith in ap (λ (k : ℕ). ring_of groups k mount ∷ []) same
one_more groups n (mount ∷ mounts) (suc i) d within =
    let same : n + 1 + i ≡ n + suc i = omega arith in
    ap (λ (l : List RingShape). ring_of groups n mount ∷ l)
    (one_more groups (n + 1) mounts i d (omega (arith, within))
    ∙ ap (λ (k : ℕ). take i (shapes_from groups (n + 1) mounts) ++ ring_of groups k (get_or mounts i d) ∷ []) same)

-- the ring of one mountpoint more
pub rings_more : {P : Type 0} (shape : P → RingShape) (c : Config) (i : ℕ) (d mount : Mount)
    (filters : List FilterValue) (places now : List P) (place : P) → i < length c.mount → mount ≡ get_or c.mount i d
    → filters ≡ filters_of c.group i → map shape places ≡ take i (shapes c) → now ≡ places ++ place ∷ []
    → shape place ≡ record { capacity = mount.ring; filters = filters } → map shape now ≡ take (i + 1) (shapes c)
rings_more {P} shape c i d mount filters places now place within is same so_far pushed ring =
    let next : suc i ≡ i + 1 = omega arith in
    let first : i ≡ 0 + i = omega arith in
    ap (map shape) pushed
    ∙ map-append shape places (place ∷ [])
    ∙ ap (λ (l : List RingShape). l ++ shape place ∷ []) so_far
    ∙ ap (λ (r : RingShape). take i (shapes c) ++ r ∷ []) ring
    ∙ ap (λ (f : List FilterValue). take i (shapes c) ++ record { capacity = mount.ring; filters = f } ∷ []) same
    ∙ ap (λ (m : Mount). take i (shapes c) ++ ring_of c.group i m ∷ []) is
    ∙ ap (λ (k : ℕ). take i (shapes c) ++ ring_of c.group k (get_or c.mount i d) ∷ []) first
    ∙ sym (one_more c.group 0 c.mount i d within)
    ∙ ap (λ (n : ℕ). take n (shapes c)) next

-- the rings of all of them
pub rings_all : {P : Type 0} (shape : P → RingShape) (c : Config) (i : ℕ) (places : List P) → length c.mount ≤ i
    → map shape places ≡ take i (shapes c) → map shape places ≡ shapes c
rings_all shape c i places all so_far =
    so_far ∙ take_all i (shapes c) (omega (arith, all, length_shapes c))

-- places where nobody else calls
pub alone_there : {P B : Type 0} (places : List P) (book : B)
    → IsTrue (alone_at (λ (place : P). true) (λ (b : B). true) places book)
alone_there [] book = refl
alone_there (place ∷ places) book = alone_there places book
