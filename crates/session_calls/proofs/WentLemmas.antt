-- Histories that went on over several places.
use Rattle.std.proofs.Common.{◌≡◌, ℕ, Bool, true, false, IsTrue, List, [], ◌++◌, refl, sym, ap, subst, ◌∙◌}
use Rattle.std.proofs.lemmas.List.Concat.{flat_map-append}
use Rattle.turn_log.specs.History.{History, entries_of}
use Rattle.turn_log.specs.Heard.{Heard, told, calls_in}
use Rattle.turn_log.proofs.HeardLaws.{heard_none, heard_both, heard_on, heard_less, heard_alone}
use Rattle.mount_ring.specs.declared.call.RingCall.{RingCall}
use Rattle.mount_ring.specs.declared.shape.RingShape.{RingShape}
use Rattle.session_calls.specs.Steps.{Step, ring_part, on_ring}
use Rattle.session_calls.specs.Rings.{history_at, answer_at, Went, WentOn}

-- no step, nothing called
pub went_none : (shapes : List RingShape) (alone : Bool) (histories : List (History RingCall)) (me : ℕ)
    → Went shapes alone histories histories me []
went_none shapes alone histories me = record {
  size = refl;
  rings = λ mount. heard_none alone (answer_at shapes mount) (history_at histories mount) me;
}

-- some steps, and then some more
pub went_both : (shapes : List RingShape) (alone : Bool) (a b c : List (History RingCall)) (me : ℕ)
    (first second : List Step) → Went shapes alone a b me first → Went shapes alone b c me second
    → Went shapes alone a c me (first ++ second)
went_both shapes alone a b c me first second x y = record {
  size = y.size ∙ x.size;
  rings = λ mount.
      subst (λ pairs. Heard alone (answer_at shapes mount) (history_at a mount) (history_at c mount) me pairs)
      (sym (flat_map-append (ring_part mount) first second))
      (heard_both alone (answer_at shapes mount) (history_at a mount) (history_at b mount) (history_at c mount) me
      (on_ring mount first) (on_ring mount second) (x.rings mount) (y.rings mount));
}

-- what holds where all places are alone holds where less is claimed
pub went_less : (shapes : List RingShape) (alone less : Bool) (old now : List (History RingCall)) (me : ℕ)
    (steps : List Step) → (IsTrue less → IsTrue alone) → Went shapes alone old now me steps
    → Went shapes less old now me steps
went_less shapes alone less old now me steps from x = record {
  size = x.size;
  rings = λ mount. heard_less alone less (answer_at shapes mount) (history_at old mount) (history_at now mount) me
      (on_ring mount steps) from (x.rings mount);
}

-- others went on, and the caller did not
pub went_on : (shapes : List RingShape) (a b c : List (History RingCall)) (me : ℕ) (steps : List Step)
    → Went shapes false a b me steps → WentOn b c me → Went shapes false a c me steps
went_on shapes a b c me steps x y = record {
  size = y.size ∙ x.size;
  rings = λ mount. heard_on false (answer_at shapes mount) (history_at a mount) (history_at b mount)
      (history_at c mount) me (on_ring mount steps) (x.rings mount) (y.rings mount) (λ is. absurd cc);
}

-- where nobody else calls, the caller's entries are all
pub alone_entries : (shapes : List RingShape) (old now : List (History RingCall)) (me : ℕ) (steps : List Step)
    (mount : ℕ) → Went shapes true old now me steps
    → history_at now mount ≡ history_at old mount ++ entries_of me (calls_in (on_ring mount steps))
alone_entries shapes old now me steps mount x = heard_alone (x.rings mount)

-- and the answers follow from the calls
pub alone_answers : (shapes : List RingShape) (old now : List (History RingCall)) (me : ℕ) (steps : List Step)
    (mount : ℕ) → Went shapes true old now me steps
    → on_ring mount steps ≡ told (answer_at shapes mount) me (history_at old mount)
    (entries_of me (calls_in (on_ring mount steps)))
alone_answers shapes old now me steps mount x =
    sym (x.rings mount).mine
    ∙ ap (told (answer_at shapes mount) me (history_at old mount)) ((x.rings mount).nothing_else refl)
