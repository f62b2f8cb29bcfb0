-- Keepers that sat down with what they were given may keep serving.
use Rattle.std.proofs.Common.{◌≡◌, ◌+◌, ◌≤◌, ℕ, zero, suc, List, [], ◌∷◌, length, map, replicate, refl, sym, ap, subst, arith, length-append}
use Rattle.std.specs.List.{All}
use Rattle.std.proofs.lemmas.List.{length-map}
use Rattle.std.proofs.lemmas.List.Elements.{All-nil, All-cons, All-append, All-head, All-tail}
use Rattle.cast_config.specs.declared.config.Config.{Config}
use Rattle.cast_config.specs.declared.config.Relay.{Relay}
use Rattle.caster_places.specs.Known.{Fit}
use Rattle.caster_link.specs.declared.role.Role.{Role}
use Rattle.caster_link.specs.declared.role.Role.TheVariants as roles
use Rattle.caster_seats.specs.declared.shared.Shared.{Shared}
use Rattle.caster_seats.specs.SeatedCallers.{SeatedTold}
use Rattle.caster_seats.specs.Seated.{AreSeated}
use Rattle.caster_seats.specs.Sharing.{IsReady}
use Rattle.caster_keep.specs.declared.keeper.Keeper.{Keeper}
use Rattle.caster_keep.specs.Gates.{relays_from, roles_of}
use Rattle.caster_keep.specs.Stations.{IsRoleOf, MayKeep, PostTold, posted}
use Rattle.caster_keep.specs.Together.{IsNewKeeper, role_at}

-- ---- roles of the configuration

abbrev relay_number : Role → ℕ
relay_number roles.Caller = 0
relay_number (roles.Relay number) = number

workers_fit : (c : Config) (n : ℕ) → All (IsRoleOf c) (replicate n roles.Caller)
workers_fit c zero = All-nil (IsRoleOf c)
workers_fit c (suc n) =
    All-cons (IsRoleOf c) roles.Caller (replicate n roles.Caller)
    (λ number is. absurd (let clash : roles.Caller ≡ roles.Relay number = is in cc)) (workers_fit c n)

relays_fit : (c : Config) (n : ℕ) (relays : List Relay) → n + length relays ≤ length c.relay
    → All (IsRoleOf c) (relays_from n relays)
relays_fit c n [] few = All-nil (IsRoleOf c)
relays_fit c n (relay ∷ relays) few =
    All-cons (IsRoleOf c) (roles.Relay n) (relays_from (n + 1) relays)
    (λ number is. let same : n ≡ number = ap relay_number is in omega (arith, same, few))
    (relays_fit c (n + 1) relays (omega (arith, few)))

roles_fit : (c : Config) → All (IsRoleOf c) (roles_of c)
roles_fit c =
    All-append (IsRoleOf c) (replicate c.workers roles.Caller) (relays_from 0 c.relay) (workers_fit c c.workers)
    (relays_fit c 0 c.relay (omega arith))

length_workers : (n : ℕ) → length (replicate n roles.Caller) ≡ n
length_workers zero = refl
length_workers (suc n) = ap suc (length_workers n)

length_relays : (n : ℕ) (relays : List Relay) → length (relays_from n relays) ≡ length relays
length_relays n [] = refl
length_relays n (relay ∷ relays) = ap suc (length_relays (n + 1) relays)

module _ {G : Type 0} where
  -- as many as there are workers and relays
  pub as_many : (c : Config) (keepers : List (Keeper G)) → map role_at keepers ≡ roles_of c
      → length keepers ≡ c.workers + length c.relay
  as_many c keepers are =
      omega (
        arith,
        length-map keepers role_at,
        ap length are,
        length-append (replicate c.workers roles.Caller) (relays_from 0 c.relay),
        length_workers c.workers,
        length_relays 0 c.relay,
      )

  fit_each : (c : Config) (keepers : List (Keeper G)) → All (IsRoleOf c) (map role_at keepers)
      → All (λ (keeper : Keeper G). IsRoleOf c keeper.role) keepers
  fit_each c [] fit = All-nil (λ (keeper : Keeper G). IsRoleOf c keeper.role)
  fit_each c (keeper ∷ keepers) fit =
      All-cons (λ (k : Keeper G). IsRoleOf c k.role) keeper keepers
      (All-head (IsRoleOf c) keeper.role (map role_at keepers) fit)
      (fit_each c keepers (All-tail (IsRoleOf c) keeper.role (map role_at keepers) fit))

  -- ---- at their seats

  may_each : (shared : Shared) (n : ℕ) (keepers : List (Keeper G)) (hands : List (SeatedTold (Keeper G)))
      → IsReady shared → All IsNewKeeper keepers
      → All (λ (keeper : Keeper G). IsRoleOf shared.config.now keeper.role) keepers
      → AreSeated shared n keepers hands
      → All (λ (hand : SeatedTold (Keeper G)). MayKeep (posted shared.config.now shared.table.items hand)) hands
  may_each shared n [] [] ready fresh fit seated =
      All-nil (λ (hand : SeatedTold (Keeper G)). MayKeep (posted shared.config.now shared.table.items hand))
  may_each shared n [] (hand ∷ hands) ready fresh fit seated = absurd seated
  may_each shared n (keeper ∷ keepers) [] ready fresh fit seated = absurd seated
  may_each shared n (keeper ∷ keepers) (hand ∷ hands) ready fresh fit seated =
      let c = shared.config.now in
      let new : IsNewKeeper keeper = All-head IsNewKeeper keeper keepers fresh in
      let is : hand.work ≡ keeper = seated.0.work_is in
      All-cons (λ (h : SeatedTold (Keeper G)). MayKeep (posted c shared.table.items h)) hand hands
      (record {
        kept = ready.kept;
        table_is = ready.table_is;
        fit = subst (λ (k : ℕ). Fit c k hand.known) (sym seated.0.numbered) seated.0.fit;
        role = subst (λ (k : Keeper G). IsRoleOf c k.role) (sym is)
            (All-head (λ (k : Keeper G). IsRoleOf c k.role) keeper keepers fit);
        fresh = subst (λ (k : Keeper G). IsNewKeeper k) (sym is) new;
      })
      (may_each shared (n + 1) keepers hands ready (All-tail IsNewKeeper keeper keepers fresh)
      (All-tail (λ (k : Keeper G). IsRoleOf c k.role) keeper keepers fit) seated.1)

  may_keep : (shared : Shared) (keepers : List (Keeper G)) (hands : List (SeatedTold (Keeper G))) → IsReady shared
      → All IsNewKeeper keepers → map role_at keepers ≡ roles_of shared.config.now
      → AreSeated shared 0 keepers hands
      → All (λ (hand : SeatedTold (Keeper G)). MayKeep (posted shared.config.now shared.table.items hand)) hands
  may_keep shared keepers hands ready fresh are seated =
      may_each shared 0 keepers hands ready fresh
      (fit_each shared.config.now keepers
      (subst (All (IsRoleOf shared.config.now)) (sym are) (roles_fit shared.config.now))) seated

  -- ---- at their posts

  on_posts : {X : Type 0} (tell : X → PostTold G) (posts : List X) → All MayKeep (map tell posts)
      → All (λ (post : X). MayKeep (tell post)) posts
  on_posts tell [] may = All-nil (λ (post : _). MayKeep (tell post))
  on_posts tell (post ∷ posts) may =
      All-cons (λ (p : _). MayKeep (tell p)) post posts (All-head MayKeep (tell post) (map tell posts) may)
      (on_posts tell posts (All-tail MayKeep (tell post) (map tell posts) may))

  at_posts : (c : Config) (table : List ℕ) (hands : List (SeatedTold (Keeper G)))
      → All (λ (hand : SeatedTold (Keeper G)). MayKeep (posted c table hand)) hands
      → All MayKeep (map (posted c table) hands)
  at_posts c table [] may = All-nil MayKeep
  at_posts c table (hand ∷ hands) may =
      let P = λ (h : SeatedTold (Keeper G)). MayKeep (posted c table h) in
      All-cons MayKeep (posted c table hand) (map (posted c table) hands) (All-head P hand hands may)
      (at_posts c table hands (All-tail P hand hands may))

  -- so may those whose posts are these
  pub posts_may : {X : Type 0} (tell : X → PostTold G) (shared : Shared) (keepers : List (Keeper G))
      (hands : List (SeatedTold (Keeper G))) (posts : List X) → IsReady shared → All IsNewKeeper keepers
      → map role_at keepers ≡ roles_of shared.config.now → AreSeated shared 0 keepers hands
      → map tell posts ≡ map (posted shared.config.now shared.table.items) hands
      → All (λ (post : X). MayKeep (tell post)) posts
  posts_may tell shared keepers hands posts ready fresh are seated is =
      on_posts tell posts (subst (All MayKeep) (sym is)
      (at_posts shared.config.now shared.table.items hands (may_keep shared keepers hands ready fresh are seated)))
