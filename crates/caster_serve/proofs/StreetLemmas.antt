-- What a street is asked, and what comes back to it.
use Rattle.std.proofs.Common.{◌≡◌, ◌⊎◌, Ok, Err, suc, take, replicate, length, ◌∙◌, ◌++◌, ℕ, List, [], ◌∷◌, map, IsTrue, inl, inr, refl, sym, ap, subst, arith, append-nil, append_assoc}
use Rattle.std.specs.Prelude.{Result, OnOk, nat_lt, Bool, true, false, ◌||◌}
use Rattle.std.specs.List.{All, list_any}
use Rattle.std.specs.Str.{is_utf8}
use Rattle.std.proofs.lemmas.Bool.{and_parts, ltb-true}
use Rattle.std.proofs.lemmas.List.{map-append, take-map, length-map}
use Rattle.std.proofs.lemmas.List.Elements.{All-nil, All-cons, All-append, All-head, All-tail}
use Rattle.std.proofs.lemmas.List.Folds.{list_any-append}
use Rattle.caster_accounts.specs.declared.account.Sum.{Sum}
use Rattle.caster_accounts.specs.Sums.{nothing}
use Rattle.cast_config.specs.declared.config.Config.{Config}
use Rattle.cast_config.specs.declared.config.Relay.{Relay}
use Rattle.cast_config.specs.Kept.{KeepsRelay}
use Rattle.cast_io.specs.Causes.{Rose}
use Rattle.cast_io.specs.Told.{LinkTold, DoorTold, StreetTold, Grew}
use Rattle.cast_io.specs.declared.steps.Asked.{Asked}
use Rattle.cast_io.specs.declared.steps.Asked.TheVariants as asked
use Rattle.cast_io.specs.Doors.{IsNewDoor}
use Rattle.caster_serve.specs.declared.caller_task.Endpoint.{Endpoint}
use Rattle.caster_serve.specs.declared.caller_task.CallerTask.{CallerTask}
use Rattle.cast_io.specs.Streets as streets
use Rattle.cast_io.specs.Streets.{HasLeft, HasShut}
use Rattle.cast_io.proofs.ToldLemmas.{grew_both, grew_none}
use Rattle.caster_serve.specs.Endpoints.{EndpointTold, at_door, over_link, HasAsked, HasTakenBack, IsUnserved, IsUnused, a_worker, asked_of, at_new_door, dial_of, end_told, kind_of, kinds, relays_from, doors_in, links_in, door_failed, unserved}

pub address_utf8 : (mounts : ℕ) (relay : Relay) → KeepsRelay mounts relay → IsTrue (is_utf8 relay.address)
address_utf8 mounts relay kept = (and_parts _ _ (and_parts _ _ (and_parts _ _ kept.address).0).0).1

-- ---- what comes back

pub doors-append : (xs ys : List EndpointTold) → doors_in (xs ++ ys) ≡ doors_in xs ++ doors_in ys
doors-append [] ys = refl
doors-append (at_door door ∷ xs) ys = ap (λ l. door ∷ l) (doors-append xs ys)
doors-append (over_link number link ∷ xs) ys = doors-append xs ys

pub links-append : (xs ys : List EndpointTold) → links_in (xs ++ ys) ≡ links_in xs ++ links_in ys
links-append [] ys = refl
links-append (at_door door ∷ xs) ys = links-append xs ys
links-append (over_link number link ∷ xs) ys = ap (λ l. link ∷ l) (links-append xs ys)

pub or_split : (a b : Bool) → (a || b) ≡ true → (a ≡ true) ⊎ (b ≡ true)
or_split true b h = inl refl
or_split false b h = inr h

-- one of them failed before the last, or the last did
any_last : (xs : List EndpointTold) (x : EndpointTold) → IsTrue (list_any door_failed (xs ++ x ∷ []))
    → IsTrue (list_any door_failed xs) ⊎ IsTrue (door_failed x)
any_last xs x h = from (or_split _ _ (sym (list_any-append door_failed xs (x ∷ [])) ∙ h))
  where
    one : (door_failed x ≡ true) ⊎ (list_any door_failed [] ≡ true) → IsTrue (door_failed x)
    one (inl so) = so
    one (inr never) = absurd cc

    from : (list_any door_failed xs ≡ true) ⊎ (list_any door_failed (x ∷ []) ≡ true)
        → IsTrue (list_any door_failed xs) ⊎ IsTrue (door_failed x)
    from (inl so) = inl so
    from (inr so) = inr (one (or_split _ _ so))

-- nothing came back so far
pub back_none : (a : StreetTold) → HasTakenBack [] a a
back_none a = record {
  asked = refl;
  doors = grew_none a.doors;
  links = grew_none a.links;
  later = omega arith;
  rose = λ never. absurd (let clash : false ≡ true = never in cc);
}

-- a door more was shut
pub back_door : (a b c : StreetTold) (xs : List EndpointTold) (door : DoorTold) → HasTakenBack xs a b
    → HasShut door b c → HasTakenBack (xs ++ at_door door ∷ []) a c
back_door a b c xs door back shut = record {
  asked = shut.asked ∙ back.asked;
  doors = subst (Grew a.doors c.doors) (sym (doors-append xs (at_door door ∷ [])))
      (grew_both a.doors b.doors c.doors (doors_in xs) (door ∷ []) back.doors shut.doors);
  links = subst (Grew a.links c.links) (sym (links-append xs (at_door door ∷ []) ∙ append-nil (links_in xs)))
      (subst (λ told. Grew a.links told (links_in xs)) (sym shut.links) back.links);
  later = omega (arith, back.later, shut.faults.later);
  rose = λ any. risen (any_last xs (at_door door) any);
}
  where
    risen : IsTrue (list_any door_failed xs) ⊎ IsTrue (nat_lt 0 door.faults) → Rose a.faults c.faults
    risen (inl before) = omega (arith, back.rose before, shut.faults.later)
    risen (inr here) = omega (arith, back.later, shut.faults.rose (ltb-true 0 door.faults here))

-- a link more was hung up
pub back_link : (a b c : StreetTold) (xs : List EndpointTold) (n : ℕ) (link : LinkTold) → HasTakenBack xs a b
    → HasLeft link b c → HasTakenBack (xs ++ over_link n link ∷ []) a c
back_link a b c xs n link back left = record {
  asked = left.asked ∙ back.asked;
  doors = subst (Grew a.doors c.doors) (sym (doors-append xs (over_link n link ∷ []) ∙ append-nil (doors_in xs)))
      (subst (λ told. Grew a.doors told (doors_in xs)) (sym left.doors) back.doors);
  links = subst (Grew a.links c.links) (sym (links-append xs (over_link n link ∷ [])))
      (grew_both a.links b.links c.links (links_in xs) (link ∷ []) back.links left.links);
  later = omega (arith, back.later, left.faults);
  rose = λ any. risen (any_last xs (over_link n link) any);
}
  where
    risen : IsTrue (list_any door_failed xs) ⊎ (false ≡ true) → Rose a.faults c.faults
    risen (inl before) = omega (arith, back.rose before, left.faults)
    risen (inr never) = absurd cc

-- ---- what is asked

pub asked_one : (wanted : Asked) (a b : StreetTold) → streets.HasAsked wanted a b → HasAsked (wanted ∷ []) a b
asked_one wanted a b one = record {
  asked = one.asked;
  doors = one.doors;
  links = one.links;
  later = one.later;
}

pub asked_both : (xs ys : List Asked) (a b c : StreetTold) → HasAsked xs a b → HasAsked ys b c
    → HasAsked (xs ++ ys) a c
asked_both xs ys a b c first second = record {
  asked = grew_both a.asked b.asked c.asked xs ys first.asked second.asked;
  doors = second.doors ∙ first.doors;
  links = second.links ∙ first.links;
  later = omega (arith, first.later, second.later);
}

-- one relay more was dialled, and then some of those behind it
pub dialled : (relay : Relay) (later relays : List Relay) (n : ℕ) (a b c : StreetTold) → relays ≡ relay ∷ later
    → streets.HasAsked (dial_of relay) a b → HasAsked (map dial_of (take n later)) b c
    → HasAsked (map dial_of (take (suc n) relays)) a c
dialled relay later relays n a b c is one more =
    subst (λ (l : List Relay). HasAsked (map dial_of (take (suc n) l)) a c) (sym is)
    (asked_both (dial_of relay ∷ []) (map dial_of (take n later)) a b c (asked_one (dial_of relay) a b one) more)

-- it was dialled, and no more
pub dialled_last : (relay : Relay) (later relays : List Relay) (a b : StreetTold) → relays ≡ relay ∷ later
    → streets.HasAsked (dial_of relay) a b → HasAsked (map dial_of (take 1 relays)) a b
dialled_last relay later relays a b is one =
    subst (λ (l : List Relay). HasAsked (map dial_of (take 1 l)) a b) (sym is) (asked_one (dial_of relay) a b one)

-- the doors were opened, and then some relays were dialled
pub opened : {relays : List Relay} (c : Config) (addr : List ℕ) (n : ℕ) (x y z : StreetTold) → relays ≡ c.relay
    → streets.HasAsked (asked.Open addr c.workers) x y → HasAsked (map dial_of (take n relays)) y z
    → HasAsked (take (suc n) (asked_of c addr)) x z
opened c addr n x y z same one more =
    asked_both (asked.Open addr c.workers ∷ []) (take n (map dial_of c.relay)) x y z
    (asked_one (asked.Open addr c.workers) x y one)
    (subst (λ (l : List Asked). HasAsked l y z) (ap (λ l. map dial_of (take n l)) same
    ∙ sym (take-map dial_of n c.relay)) more)

-- ---- what is given

pub doors_told : {D L : Type 0} (f : D → DoorTold) (g : L → LinkTold) (doors : List D)
    → map kind_of (map (end_told f g) (map at_new_door doors)) ≡ replicate (length doors) a_worker
doors_told f g [] = refl
doors_told f g (door ∷ doors) = ap (λ l. a_worker ∷ l) (doors_told f g doors)

pub doors_unused : {D L : Type 0} (f : D → DoorTold) (g : L → LinkTold) (doors : List D)
    → All (λ door. IsNewDoor (f door)) doors → All IsUnused (map (end_told f g) (map at_new_door doors))
doors_unused f g [] fresh = All-nil IsUnused
doors_unused f g (door ∷ doors) fresh =
    All-cons IsUnused (at_door (f door)) (map (end_told f g) (map at_new_door doors))
    (All-head (λ door. IsNewDoor (f door)) door doors fresh)
    (doors_unused f g doors (All-tail (λ door. IsNewDoor (f door)) door doors fresh))

-- of all as they are told, the next of those that are left is one more of those before
pub told_next : {D L : Type 0} (f : D → DoorTold) (g : L → LinkTold) (all : List EndpointTold) (before : List EndpointTold)
    (left later : List (CallerTask D L)) (task : CallerTask D L) → all ≡ before ++ map (end_told f g) left
    → left ≡ task ∷ later → all ≡ (before ++ end_told f g task ∷ []) ++ map (end_told f g) later
told_next f g all before left later task all_are is =
    all_are ∙ ap (λ l. before ++ map (end_told f g) l) is
    ∙ sym (append_assoc before (end_told f g task ∷ []) (map (end_told f g) later))

-- where the rest was dialled, all were
pub counted : {T E : Type 0} (relay : Relay) (later relays : List Relay) (result : Result T E) (n : ℕ)
    → relays ≡ relay ∷ later
    → OnOk result (n ≡ length later) → OnOk result (suc n ≡ length relays)
counted relay later relays (Ok answer) n is all = ap suc all ∙ sym (ap length is)
counted relay later relays (Err fault) n is all = tt

-- the relays that were dialled behind what was given before
pub kinds_more : {D L T E : Type 0} {relays : List Relay} (f : D → DoorTold) (g : L → LinkTold) (c : Config)
    (doors : List D)
    (more all : List (CallerTask D L)) (result : Result T E) → relays ≡ c.relay → length doors ≡ c.workers
    → all ≡ map at_new_door doors ++ more
    → OnOk result (map kind_of (map (end_told f g) more) ≡ relays_from 0 relays)
    → OnOk result (map kind_of (map (end_told f g) all) ≡ kinds c)
kinds_more f g c doors more all (Err fault) same size is told = tt
kinds_more f g c doors more all (Ok answer) same size is told =
    ap (λ l. map kind_of (map (end_told f g) l)) is
    ∙ ap (map kind_of) (map-append (end_told f g) (map at_new_door doors) more)
    ∙ map-append kind_of (map (end_told f g) (map at_new_door doors)) (map (end_told f g) more)
    ∙ ap (λ l. l ++ map kind_of (map (end_told f g) more)) (doors_told f g doors ∙ ap (λ n. replicate n a_worker) size)
    ∙ ap (λ l. replicate c.workers a_worker ++ l) (told ∙ ap (relays_from 0) same)

pub unused_more : {D L : Type 0} (f : D → DoorTold) (g : L → LinkTold) (doors : List D) (more all : List (CallerTask D L))
    → all ≡ map at_new_door doors ++ more → All (λ door. IsNewDoor (f door)) doors
    → All IsUnused (map (end_told f g) more) → All IsUnused (map (end_told f g) all)
unused_more f g doors more all is fresh unused =
    subst (All IsUnused) (sym (ap (map (end_told f g)) is ∙ map-append (end_told f g) (map at_new_door doors) more))
    (All-append IsUnused (map (end_told f g) (map at_new_door doors)) (map (end_told f g) more)
    (doors_unused f g doors fresh) unused)

-- all of them were dialled
pub all_asked : {T E : Type 0} {relays : List Relay} (c : Config) (n : ℕ) (result : Result T E) → relays ≡ c.relay
    → OnOk result (n ≡ length relays)
    → OnOk result (suc n ≡ suc (length (map dial_of c.relay)))
all_asked c n (Ok answer) same all = ap suc (all ∙ ap length same ∙ sym (length-map c.relay dial_of))
all_asked c n (Err fault) same all = tt

pub opened_only : (c : Config) (addr : List ℕ) (x y : StreetTold)
    → streets.HasAsked (asked.Open addr c.workers) x y → HasAsked (take 1 (asked_of c addr)) x y
opened_only c addr x y one = asked_one (asked.Open addr c.workers) x y one

-- what came behind an empty list and what came behind that
pub behind : {X : Type 0} (none some all xs ys : List X) → none ≡ [] → some ≡ none ++ xs → all ≡ some ++ ys
    → all ≡ xs ++ ys
behind none some all xs ys empty first second =
    second ∙ ap (λ l. l ++ ys) (first ∙ ap (λ l. l ++ xs) empty)

doors_unserved : {D L : Type 0} (doors : List D) → All (IsUnserved {D = D} {L = L}) (map at_new_door doors)
doors_unserved [] = All-nil IsUnserved
doors_unserved (door ∷ doors) =
    All-cons IsUnserved (at_new_door door) (map at_new_door doors) refl (doors_unserved doors)

pub unserved_at : {D L : Type 0} (doors : List D) (none all : List (CallerTask D L)) → none ≡ []
    → all ≡ none ++ map at_new_door doors → All IsUnserved all
unserved_at doors none all empty is =
    subst (All IsUnserved) (sym (is ∙ ap (λ l. l ++ map at_new_door doors) empty)) (doors_unserved doors)

pub unserved_more : {D L : Type 0} (end : Endpoint D L) (task : CallerTask D L) (old new : List (CallerTask D L))
    → task ≡ unserved end → new ≡ old ++ task ∷ [] → All IsUnserved old → All IsUnserved new
unserved_more end task old new fresh is all =
    subst (All IsUnserved) (sym (is ∙ ap (λ (t : CallerTask _ _). old ++ t ∷ []) fresh))
    (All-append IsUnserved old (unserved end ∷ []) all
    (All-cons IsUnserved (unserved end) [] refl (All-nil IsUnserved)))

-- a sum of nothing, by its parts
abbrev pub sum_of : ℕ → ℕ → ℕ → Sum
sum_of sessions sent overrun = record { sessions = sessions; sent = sent; overrun = overrun }

pub is_nothing : (sum : Sum) → sum.sessions ≡ 0 → sum.sent ≡ 0 → sum.overrun ≡ 0 → sum ≡ nothing
is_nothing sum no_sessions no_sent no_overrun =
    ap (λ (n : ℕ). sum_of n sum.sent sum.overrun) no_sessions ∙ ap (λ (n : ℕ). sum_of 0 n sum.overrun) no_sent
    ∙ ap (λ (n : ℕ). sum_of 0 0 n) no_overrun
