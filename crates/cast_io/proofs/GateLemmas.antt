-- Gates in memory as a yard gives them.
use Rattle.std.proofs.Common.{◌≡◌, ◌∙◌, List, [], ◌∷◌, map, option_map, refl, sym, ap, subst, true, false}
use Rattle.std.specs.Prelude.{◌==◌, Option, None, Some, slice_index_or}
use Rattle.std.specs.List.{All, list_all}
use Rattle.std.proofs.lemmas.Bool.{and_parts, eqb-true}
use Rattle.std.proofs.lemmas.List.Elements.{All-map}
use Rattle.std.proofs.lemmas.List.Folds.{list_all-map}
use Rattle.std.proofs.lemmas.List.Sums.{AllPass-from_list_all}
use Rattle.cast_io.specs.declared.yard_asked.YardAsked.{YardAsked}
use Rattle.cast_io.specs.Told.{LinkTold}
use Rattle.cast_io.specs.Doors.{IsNewDoor}
use Rattle.cast_io.specs.FakeLinks.{LinkState, link_told}
use Rattle.cast_io.specs.FakeDoors.{door_told, none_back}
use Rattle.cast_io.specs.FakeGates.{GateState, is_new_gate, made_for}

-- each was made for this
pub made_so : (wanted : YardAsked) (gates given : List GateState) → given ≡ map (made_for wanted) gates
    → All (λ (gate : GateState). gate.origin ≡ wanted) given
made_so wanted gates given is =
    subst (All (λ (gate : GateState). gate.origin ≡ wanted)) (sym is)
    (All-map (λ (gate : GateState). gate.origin ≡ wanted) (made_for wanted) gates (λ k d inside. refl))

none_came : (back : Option (List LinkState)) → none_back back ≡ true → (list : List LinkTold)
    → option_map (map link_told) back ≡ Some list → list ≡ []
none_came None new list is = absurd (let clash : false ≡ true = new in cc)
none_came (Some []) new list is = cc
none_came (Some (link ∷ links)) new list is = absurd (let clash : false ≡ true = new in cc)

new_gate : (gate : GateState) → is_new_gate gate ≡ true → IsNewDoor (door_told gate.door)
new_gate gate new =
    let parts = and_parts (none_back gate.door.back) (gate.door.faults == 0) new in
    record { back = none_came gate.door.back parts.0; faults = eqb-true gate.door.faults 0 parts.1 }

-- and each is as new as it was
pub made_new : (wanted : YardAsked) (gates given : List GateState) → given ≡ map (made_for wanted) gates
    → list_all is_new_gate gates ≡ true → All (λ (gate : GateState). IsNewDoor (door_told gate.door)) given
made_new wanted gates given is new =
    let so : list_all is_new_gate given ≡ true =
    ap (list_all is_new_gate) is ∙ list_all-map is_new_gate (made_for wanted) gates ∙ new in
    let each = AllPass-from_list_all is_new_gate given so in
    λ k d inside. new_gate (slice_index_or given k d) (each k d inside)
