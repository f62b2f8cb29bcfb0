-- What a yard is asked, and what comes back to it.
use Rattle.std.proofs.Common.{◌≡◌, ◌⊎◌, Ok, Err, suc, take, replicate, length, append-nil, append_assoc, ◌∙◌, ◌++◌, ◌+◌, ℕ, List, [], ◌∷◌, map, IsTrue, inl, inr, refl, sym, ap, subst, arith}
use Rattle.std.specs.Prelude.{Result, OnOk, nat_lt, false, true}
use Rattle.std.specs.List.{All, list_any}
use Rattle.std.proofs.lemmas.Bool.{ltb-true}
use Rattle.std.proofs.lemmas.List.{map-append, take-map, length-map}
use Rattle.std.proofs.lemmas.List.Elements.{All-nil, All-cons, All-append, All-head, All-tail}
use Rattle.std.proofs.lemmas.List.Folds.{list_any-append}
use Rattle.cast_config.specs.declared.config.Config.{Config}
use Rattle.cast_config.specs.declared.config.Relay.{Relay}
use Rattle.cast_io.specs.Causes.{Rose}
use Rattle.cast_io.specs.Told.{DoorTold}
use Rattle.cast_io.specs.Doors.{IsNewDoor}
use Rattle.cast_io.specs.declared.yard_asked.YardAsked.{YardAsked}
use Rattle.cast_io.specs.declared.yard_asked.YardAsked.TheVariants as asked
use Rattle.cast_io.specs.Yards.{GateTold, YardTold, HasBeenAsked, HasShutGate}
use Rattle.cast_io.proofs.ToldLemmas.{grew_both, grew_none}
use Rattle.caster_link.specs.declared.role.Role.TheVariants as roles
use Rattle.caster_keep.specs.declared.keeper.Keeper.{Keeper}
use Rattle.caster_keep.specs.Gates.{HasAsked, HasTakenBack, gate_failed, gates_asked, made_of, reach_of, relays_from, roles_of}
use Rattle.caster_keep.specs.Stations.{new_keeper}
use Rattle.caster_keep.specs.Together.{IsNewKeeper, role_at}
use Rattle.caster_serve.proofs.StreetLemmas.{or_split}

-- ---- what comes back

pub none_back : (yard : YardTold) → HasTakenBack [] yard yard
none_back yard = record {
  asked = refl;
  gates = grew_none yard.gates;
  notes = refl;
  later = omega arith;
  rose = λ never. absurd cc;
  note_faults = refl;
}

-- one of them failed before the last, or the last did
any_last : (xs : List GateTold) (x : GateTold) → IsTrue (list_any gate_failed (xs ++ x ∷ []))
    → IsTrue (list_any gate_failed xs) ⊎ IsTrue (gate_failed x)
any_last xs x h = from (or_split _ _ (sym (list_any-append gate_failed xs (x ∷ [])) ∙ h))
  where
    one : (gate_failed x ≡ true) ⊎ (list_any gate_failed [] ≡ true) → IsTrue (gate_failed x)
    one (inl so) = so
    one (inr never) = absurd cc

    from : (list_any gate_failed xs ≡ true) ⊎ (list_any gate_failed (x ∷ []) ≡ true)
        → IsTrue (list_any gate_failed xs) ⊎ IsTrue (gate_failed x)
    from (inl so) = inl so
    from (inr so) = inr (one (or_split _ _ so))

-- no gate came back so far
pub back_none : (a : YardTold) → HasTakenBack [] a a
back_none a = record {
  asked = refl;
  gates = grew_none a.gates;
  notes = refl;
  later = omega arith;
  rose = λ never. absurd (let clash : false ≡ true = never in cc);
  note_faults = refl;
}

-- a gate more was shut
pub back_gate : (a b c : YardTold) (xs : List GateTold) (gate : GateTold) → HasTakenBack xs a b
    → HasShutGate gate b c → HasTakenBack (xs ++ gate ∷ []) a c
back_gate a b c xs gate back shut = record {
  asked = shut.asked ∙ back.asked;
  gates = grew_both a.gates b.gates c.gates xs (gate ∷ []) back.gates shut.gates;
  notes = shut.notes ∙ back.notes;
  later = omega (arith, back.later, shut.faults.later);
  rose = λ any. risen (any_last xs gate any);
  note_faults = shut.note_faults ∙ back.note_faults;
}
  where
    risen : IsTrue (list_any gate_failed xs) ⊎ IsTrue (nat_lt 0 gate.door.faults) → Rose a.faults c.faults
    risen (inl before) = omega (arith, back.rose before, shut.faults.later)
    risen (inr here) = omega (arith, back.later, shut.faults.rose (ltb-true 0 gate.door.faults here))

-- ---- what is asked

pub asked_one : (wanted : YardAsked) (a b : YardTold) → HasBeenAsked wanted a b → HasAsked (wanted ∷ []) a b
asked_one wanted a b one = record {
  asked = one.asked;
  gates = one.gates;
  notes = one.notes;
  later = one.later;
  note_faults = one.note_faults;
}

pub asked_both : (xs ys : List YardAsked) (a b c : YardTold) → HasAsked xs a b → HasAsked ys b c
    → HasAsked (xs ++ ys) a c
asked_both xs ys a b c first second = record {
  asked = grew_both a.asked b.asked c.asked xs ys first.asked second.asked;
  gates = second.gates ∙ first.gates;
  notes = second.notes ∙ first.notes;
  later = omega (arith, first.later, second.later);
  note_faults = second.note_faults ∙ first.note_faults;
}

-- one gate more was made, and then some of those behind it
pub reached : (quiet : ℕ) (relay : Relay) (later relays : List Relay) (n : ℕ) (a b c : YardTold)
    → relays ≡ relay ∷ later → HasBeenAsked (reach_of quiet relay) a b
    → HasAsked (map (reach_of quiet) (take n later)) b c
    → HasAsked (map (reach_of quiet) (take (suc n) relays)) a c
reached quiet relay later relays n a b c is one more =
    subst (λ (l : List Relay). HasAsked (map (reach_of quiet) (take (suc n) l)) a c) (sym is)
    (asked_both (reach_of quiet relay ∷ []) (map (reach_of quiet) (take n later)) a b c
    (asked_one (reach_of quiet relay) a b one) more)

-- it was asked for, and no more
pub reached_last : (quiet : ℕ) (relay : Relay) (later relays : List Relay) (a b : YardTold) → relays ≡ relay ∷ later
    → HasBeenAsked (reach_of quiet relay) a b → HasAsked (map (reach_of quiet) (take 1 relays)) a b
reached_last quiet relay later relays a b is one =
    subst (λ (l : List Relay). HasAsked (map (reach_of quiet) (take 1 l)) a b) (sym is)
    (asked_one (reach_of quiet relay) a b one)

-- the gates of the workers were opened, and then some were made to relays
pub opened : {relays : List Relay} (c : Config) (addr : List ℕ) (quiet n : ℕ) (x y z : YardTold) → relays ≡ c.relay
    → HasBeenAsked (asked.OpenGates addr c.workers quiet) x y
    → HasAsked (map (reach_of quiet) (take n relays)) y z
    → HasAsked (take (suc n) (gates_asked c addr quiet)) x z
opened c addr quiet n x y z same one more =
    asked_both (asked.OpenGates addr c.workers quiet ∷ []) (take n (map (reach_of quiet) c.relay)) x y z
    (asked_one (asked.OpenGates addr c.workers quiet) x y one)
    (subst (λ (l : List YardAsked). HasAsked l y z) (ap (λ l. map (reach_of quiet) (take n l)) same
    ∙ sym (take-map (reach_of quiet) n c.relay)) more)

pub opened_only : (c : Config) (addr : List ℕ) (quiet : ℕ) (x y : YardTold)
    → HasBeenAsked (asked.OpenGates addr c.workers quiet) x y → HasAsked (take 1 (gates_asked c addr quiet)) x y
opened_only c addr quiet x y one = asked_one (asked.OpenGates addr c.workers quiet) x y one

pub all_asked : {T E : Type 0} {relays : List Relay} (c : Config) (quiet n : ℕ) (result : Result T E)
    → relays ≡ c.relay → OnOk result (n ≡ length relays)
    → OnOk result (suc n ≡ suc (length (map (reach_of quiet) c.relay)))
all_asked c quiet n (Ok answer) same all = ap suc (all ∙ ap length same ∙ sym (length-map c.relay (reach_of quiet)))
all_asked c quiet n (Err fault) same all = tt

-- ---- what is given

-- the last of these gates stands behind the others
module _ {G : Type 0} (origin : G → YardAsked) where
  -- what the gates of these were made for
  abbrev pub made_for : List (Keeper G) → List YardAsked
  made_for keepers = map (λ (keeper : Keeper G). origin keeper.gate) keepers

  workers_made : (wanted : YardAsked) (gates : List G) → All (λ gate. origin gate ≡ wanted) gates
      → made_for (map (new_keeper roles.Caller) gates) ≡ replicate (length gates) wanted
  workers_made wanted [] made = refl
  workers_made wanted (gate ∷ gates) made =
      ap (λ x. x ∷ made_for (map (new_keeper roles.Caller) gates))
      (All-head (λ g. origin g ≡ wanted) gate gates made)
      ∙ ap (λ l. wanted ∷ l) (workers_made wanted gates (All-tail (λ g. origin g ≡ wanted) gate gates made))

  pub all_made : {T E : Type 0} {relays : List Relay} (c : Config) (addr : List ℕ) (quiet : ℕ) (gates : List G)
      (more all : List (Keeper G)) (result : Result T E) → relays ≡ c.relay → length gates ≡ c.workers
      → all ≡ map (new_keeper roles.Caller) gates ++ more
      → All (λ gate. origin gate ≡ asked.OpenGates addr c.workers quiet) gates
      → OnOk result (made_for more ≡ map (reach_of quiet) relays)
      → OnOk result (made_for all ≡ made_of c addr quiet)
  all_made c addr quiet gates more all (Err fault) same size is made given = tt
  all_made c addr quiet gates more all (Ok answer) same size is made given =
      let wanted = asked.OpenGates addr c.workers quiet in
      ap made_for is
      ∙ map-append (λ (keeper : Keeper G). origin keeper.gate) (map (new_keeper roles.Caller) gates) more
      ∙ ap (λ l. l ++ made_for more) (workers_made wanted gates made ∙ ap (λ n. replicate n wanted) size)
      ∙ ap (λ l. replicate c.workers wanted ++ l) (given ∙ ap (map (reach_of quiet)) same)

module _ {G : Type 0} (told : G → DoorTold) where
  abbrev pub Unused : Keeper G → Type 0
  Unused keeper = IsNewDoor (told keeper.gate)

  workers_new : (gates : List G) → All IsNewKeeper (map (new_keeper roles.Caller) gates)
  workers_new [] = All-nil IsNewKeeper
  workers_new (gate ∷ gates) =
      All-cons IsNewKeeper (new_keeper roles.Caller gate) (map (new_keeper roles.Caller) gates) refl
      (workers_new gates)

  workers_unused : (gates : List G) → All (λ gate. IsNewDoor (told gate)) gates
      → All Unused (map (new_keeper roles.Caller) gates)
  workers_unused [] fresh = All-nil Unused
  workers_unused (gate ∷ gates) fresh =
      All-cons Unused (new_keeper roles.Caller gate) (map (new_keeper roles.Caller) gates)
      (All-head (λ g. IsNewDoor (told g)) gate gates fresh)
      (workers_unused gates (All-tail (λ g. IsNewDoor (told g)) gate gates fresh))

  workers_roles : (gates : List G)
      → map role_at (map (new_keeper roles.Caller) gates) ≡ replicate (length gates) roles.Caller
  workers_roles [] = refl
  workers_roles (gate ∷ gates) = ap (λ l. roles.Caller ∷ l) (workers_roles gates)

  -- the keepers of relays stand behind those of workers
  pub all_new : (gates : List G) (more all : List (Keeper G)) → all ≡ map (new_keeper roles.Caller) gates ++ more
      → All IsNewKeeper more → All IsNewKeeper all
  all_new gates more all is fresh =
      subst (All IsNewKeeper) (sym is)
      (All-append IsNewKeeper (map (new_keeper roles.Caller) gates) more (workers_new gates) fresh)

  pub all_unused : (gates : List G) (more all : List (Keeper G)) → all ≡ map (new_keeper roles.Caller) gates ++ more
      → All (λ gate. IsNewDoor (told gate)) gates → All Unused more → All Unused all
  all_unused gates more all is fresh unused =
      subst (All Unused) (sym is)
      (All-append Unused (map (new_keeper roles.Caller) gates) more (workers_unused gates fresh) unused)

  pub all_roles : {T E : Type 0} {relays : List Relay} (c : Config) (gates : List G) (more all : List (Keeper G))
      (result : Result T E) → relays ≡ c.relay → length gates ≡ c.workers
      → all ≡ map (new_keeper roles.Caller) gates ++ more
      → OnOk result (map role_at more ≡ relays_from 0 relays) → OnOk result (map role_at all ≡ roles_of c)
  all_roles c gates more all (Err fault) same size is given = tt
  all_roles c gates more all (Ok answer) same size is given =
      ap (map role_at) is ∙ map-append role_at (map (new_keeper roles.Caller) gates) more
      ∙ ap (λ l. l ++ map role_at more) (workers_roles gates ∙ ap (λ n. replicate n roles.Caller) size)
      ∙ ap (λ l. replicate c.workers roles.Caller ++ l) (given ∙ ap (relays_from 0) same)

module _ {G : Type 0} (told : G → DoorTold) (origin : G → YardAsked) where
  -- keepers of these relays stand behind others, all of them where all gates were made
  abbrev pub GivenMore : {T E : Type 0} → ℕ → ℕ → List Relay → List (Keeper G) → List (Keeper G) → Result T E → Type 0
  GivenMore number quiet relays old new result = (more : List (Keeper G)) × (new ≡ old ++ more) × All IsNewKeeper more
      × All (λ (keeper : Keeper G). IsNewDoor (told keeper.gate)) more
      × OnOk result (map role_at more ≡ relays_from number relays)
      × OnOk result (map (λ (keeper : Keeper G). origin keeper.gate) more ≡ map (reach_of quiet) relays)

  -- of no relay none is made
  pub none_left : (number quiet : ℕ) (relays : List Relay) (old : List (Keeper G)) → relays ≡ []
      → (more : List (Keeper G)) × (old ≡ old ++ more) × All IsNewKeeper more
      × All (λ (keeper : Keeper G). IsNewDoor (told keeper.gate)) more × (map role_at more ≡ relays_from number relays)
      × (map (λ (keeper : Keeper G). origin keeper.gate) more ≡ map (reach_of quiet) relays)
  none_left number quiet relays old none = (
    [],
    sym (append-nil old),
    All-nil IsNewKeeper,
    All-nil (λ (keeper : Keeper G). IsNewDoor (told keeper.gate)),
    sym (ap (relays_from number) none),
    sym (ap (map (reach_of quiet)) none),
  )

  -- none was made
  pub none_given : {T E : Type 0} (number quiet : ℕ) (relays : List Relay) (old : List (Keeper G))
      (result : Result T E) → OnOk result (relays ≡ []) → GivenMore number quiet relays old old result
  none_given number quiet relays old (Ok answer) none = none_left number quiet relays old none
  none_given number quiet relays old (Err fault) none = (
    [],
    sym (append-nil old),
    All-nil IsNewKeeper,
    All-nil (λ (keeper : Keeper G). IsNewDoor (told keeper.gate)),
    tt,
    tt,
  )

  roles_more : {T E : Type 0} (number : ℕ) (relay : Relay) (later relays : List Relay) (keeper : Keeper G)
      (more : List (Keeper G)) (result : Result T E) → relays ≡ relay ∷ later → keeper.role ≡ roles.Relay number
      → OnOk result (map role_at more ≡ relays_from (number + 1) later)
      → OnOk result (map role_at (keeper ∷ more) ≡ relays_from number relays)
  roles_more number relay later relays keeper more (Err fault) is role given = tt
  roles_more number relay later relays keeper more (Ok answer) is role given =
      ap (λ r. r ∷ map role_at more) role ∙ ap (λ l. roles.Relay number ∷ l) given
      ∙ sym (ap (relays_from number) is)

  made_more : {T E : Type 0} (quiet : ℕ) (relay : Relay) (later relays : List Relay) (keeper : Keeper G)
      (more : List (Keeper G)) (result : Result T E) → relays ≡ relay ∷ later
      → origin keeper.gate ≡ reach_of quiet relay
      → OnOk result (map (λ (k : Keeper G). origin k.gate) more ≡ map (reach_of quiet) later)
      → OnOk result (map (λ (k : Keeper G). origin k.gate) (keeper ∷ more) ≡ map (reach_of quiet) relays)
  made_more quiet relay later relays keeper more (Err fault) is made given = tt
  made_more quiet relay later relays keeper more (Ok answer) is made given =
      ap (λ x. x ∷ map (λ (k : Keeper G). origin k.gate) more) made
      ∙ ap (λ l. reach_of quiet relay ∷ l) given ∙ sym (ap (map (reach_of quiet)) is)

  -- one gate more was made, and then some of those behind it
  pub given_more : {T E : Type 0} (number quiet : ℕ) (relay : Relay) (later relays : List Relay)
      (old mid new : List (Keeper G)) (gate : G) (result : Result T E) → relays ≡ relay ∷ later
      → mid ≡ old ++ new_keeper (roles.Relay number) gate ∷ [] → IsNewDoor (told gate)
      → origin gate ≡ reach_of quiet relay → GivenMore (number + 1) quiet later mid new result
      → GivenMore number quiet relays old new result
  given_more number quiet relay later relays old mid new gate result is put fresh made given =
      let keeper = new_keeper (roles.Relay number) gate in
      let more = given.0 in (
        keeper ∷ more,
        given.1 ∙ ap (λ l. l ++ more) put ∙ append_assoc old (keeper ∷ []) more,
        All-cons IsNewKeeper keeper more refl given.2,
        All-cons (λ (k : Keeper G). IsNewDoor (told k.gate)) keeper more fresh given.3,
        roles_more number relay later relays keeper more result is refl given.4,
        made_more quiet relay later relays keeper more result is made given.5,
      )
