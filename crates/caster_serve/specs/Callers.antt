-- The callers of a caster, which are its workers and its relays: what each did from the first
-- call on.
use Rattle.std.specs.Prelude.{◌≡◌, ℕ, ◌+◌, ⊤, nat_eq, Bool, true, List, [], ◌∷◌, ◌++◌, length, map}
use Rattle.caster_accounts.specs.declared.account.Sum.{Sum}
use Rattle.caster_accounts.specs.Sums.{nothing}
use Rattle.cast_config.specs.declared.config.Config.{Config}
use Rattle.session_model.specs.Judged.{relays}
use Rattle.session_model.specs.Run.{Histories, nothing_called}
use Rattle.caster_serve.specs.Endpoints.{EndpointTold, at_door, over_link, IsUnused}
use Rattle.caster_link.specs.Wear.{Wear, only_worn}
use Rattle.caster_serve.specs.Works.{Worked, LinkCounted}

-- what it has seen, what its rovers add up to, how many connections it served, and over what
pub record Caller : Type 0 where
  pub seen : Histories
  pub tally : Sum
  pub served : ℕ
  pub end : EndpointTold

-- A worker served the links of its door, as many as it was to, or until its door failed; a relay
-- was served over its one link. Its places were worn so.
abbrev pub ServedOver : Config → ℕ → ℕ → Wear → EndpointTold → EndpointTold → Caller → Caller
    → Type 0
ServedOver c limit me wear (at_door before) (at_door after) old new =
    Worked c me wear old.seen new.seen before after old.tally new.tally limit new.served
ServedOver c limit me wear (at_door before) (over_link number after) old new = ⊥
ServedOver c limit me wear (over_link number before) (at_door after) old new = ⊥
ServedOver c limit me wear (over_link number before) (over_link now after) old new =
    (now ≡ number)
    × LinkCounted c (relays number) me wear old.seen new.seen after old.tally new.tally

-- the caller of this number served
abbrev pub Served : Config → ℕ → ℕ → Wear → Caller → Caller → Type 0
Served c limit me wear old new = ServedOver c limit me wear old.end new.end old new

-- a caller before its first call
abbrev pub uncalled : Config → EndpointTold → Caller
uncalled c end = record { seen = nothing_called c; tally = nothing; served = 0; end = end }

-- The caller of this number did that from its first call on, over what nobody had used. Its places
-- never lacked memory, and were worn by no more turns than these.
pub record IsServed (c : Config) (limit : ℕ) (worn : List ℕ) (me : ℕ) (caller : Caller) : Type 0
  where
    pub end : EndpointTold
    pub unused : IsUnused end
    pub served : Served c limit me (only_worn worn) (uncalled c end) caller

-- these callers served so, numbered from this number on
abbrev pub AreServed : Config → ℕ → List ℕ → ℕ → List Caller → Type 0
AreServed c limit worn n [] = ⊤
AreServed c limit worn n (caller ∷ callers) =
    IsServed c limit worn n caller × AreServed c limit worn (n + 1) callers

-- how many calls each of these histories has, that of the book the last
abbrev pub calls_in : Histories → List ℕ
calls_in histories = map length histories.rings ++ length histories.book ∷ []

-- a worker that served as many links as it was to; a relay has but one
abbrev pub is_whole_at : ℕ → ℕ → EndpointTold → Bool
is_whole_at limit served (at_door door) = nat_eq served limit
is_whole_at limit served (over_link number link) = true

abbrev pub is_whole : ℕ → Caller → Bool
is_whole limit caller = is_whole_at limit caller.served caller.end

abbrev pub ends_of : List Caller → List EndpointTold
ends_of callers = map (λ (caller : Caller). caller.end) callers

abbrev pub seen_of : List Caller → List Histories
seen_of callers = map (λ (caller : Caller). caller.seen) callers
