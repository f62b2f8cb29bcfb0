-- One of several places takes a turn.
use Rattle.std.proofs.Common.{◌&&◌, ◌≡◌, ◌≢◌, ℕ, zero, suc, ◌<◌, ◌≤◌, Bool, IsTrue, List, [], ◌∷◌, length, map, get_or, set, refl, sym, ap, subst, ◌∙◌, arith, inl, inr}
use Rattle.std.specs.List.{list_all}
use Rattle.std.proofs.lemmas.Bool.{cases_eq, and_parts, eq-eqb, ne_eqb}
use Rattle.std.proofs.lemmas.List.{get_or-map, get_or-set_same, get_or-set_other, length-map, length-set, map-set}
use Rattle.turn_log.specs.History.{History}
use Rattle.turn_log.specs.Heard.{Heard}
use Rattle.turn_log.proofs.HeardLaws.{heard_none, heard_less}
use Rattle.mount_ring.specs.declared.call.RingCall.{RingCall}
use Rattle.mount_ring.specs.declared.call.RingAnswer.{RingAnswer}
use Rattle.mount_ring.specs.declared.shape.RingShape.{RingShape}
use Rattle.mount_ring.specs.History as ring
use Rattle.mount_ring.specs.Shapes.{shape_of}
use Rattle.session_calls.specs.Steps.{Step, at_ring, on_ring}
use Rattle.session_calls.specs.Rings.{history_at, answer_at, Went, AllSpeak, AllLater, IsAmong}

-- what a call is answered by a ring of this shape
abbrev pub ring_answer : RingShape → History RingCall → ℕ → RingCall → RingAnswer
ring_answer shape history me call = ring.answer (shape_of shape) (ring.state_of history) call

-- what the place keeps is kept of all
pub kept_by_one : {P B : Type 0} (f : P → B) (places : List P) (i : ℕ) (d new : P)
    → f new ≡ f (get_or places i d) → map f (set places i new) ≡ map f places
kept_by_one f [] i d new same = refl
kept_by_one f (place ∷ places) zero d new same = ap (λ b. b ∷ map f places) same
kept_by_one f (place ∷ places) (suc i) d new same =
    ap (λ bs. f place ∷ bs) (kept_by_one f places i d new same)

-- what grows at the place shrinks nowhere
pub later_by_one : {P : Type 0} (worn : P → ℕ) (places : List P) (i : ℕ) (d new : P)
    → worn (get_or places i d) ≤ worn new → AllLater (map worn places) (map worn (set places i new))
later_by_one worn [] i d new later place = omega arith
later_by_one worn (p ∷ places) zero d new later zero = later
later_by_one worn (p ∷ places) zero d new later (suc place) = omega arith
later_by_one worn (p ∷ places) (suc i) d new later zero = omega arith
later_by_one worn (p ∷ places) (suc i) d new later (suc place) = later_by_one worn places i d new later place

-- the place is among the places
pub among_by_one : {P : Type 0} (IsSuch : P → Type 0) (places : List P) (i : ℕ) (new : P)
    → i < length places → IsSuch new → IsAmong IsSuch (set places i new)
among_by_one IsSuch places i new within such =
    (new, (i, omega (arith, length-set places i new, within), get_or-set_same places i new new within), such)

-- a place of places that are all alone is alone
pub alone_at : {P : Type 0} (alone : P → Bool) (places : List P) (i : ℕ) (d : P)
    → i < length places → IsTrue (list_all alone places) → IsTrue (alone (get_or places i d))
alone_at alone [] i d within all = absurd (omega arith)
alone_at alone (place ∷ places) zero d within all = (and_parts (alone place) (list_all alone places) all).0
alone_at alone (place ∷ places) (suc i) d within all =
    alone_at alone places i d (omega arith) (and_parts (alone place) (list_all alone places) all).1

-- the calls at one mountpoint, of a step at it, and of a step elsewhere
here : (mount : ℕ) (call : RingCall) (answer : RingAnswer)
    → on_ring mount (at_ring mount call answer ∷ []) ≡ (call, answer) ∷ []
here mount call answer = rw (eq-eqb mount mount refl) refl

elsewhere : (mount asked : ℕ) (call : RingCall) (answer : RingAnswer) → asked ≢ mount
    → on_ring mount (at_ring asked call answer ∷ []) ≡ []
elsewhere mount asked call answer other = rw (ne_eqb asked mount other) refl

-- a turn at one place, of a list of places by what they have seen
pub went_by_one : (shapes : List RingShape) (alone : Bool) (old : List (History RingCall)) (seen : History RingCall)
    (me mount : ℕ) (call : RingCall) (answer : RingAnswer) → mount < length old
    → Heard alone (answer_at shapes mount) (history_at old mount) seen me ((call, answer) ∷ [])
    → Went shapes alone old (set old mount seen) me (at_ring mount call answer ∷ [])
went_by_one shapes alone old seen me mount call answer within heard =
    let step : Step = at_ring mount call answer in
    record {
      size = length-set old mount seen;
      rings = λ other. elim (cases_eq mount other) [
        | inl same ↦
            subst (λ (m : ℕ). Heard alone (answer_at shapes m) (history_at old m) (history_at (set old mount seen) m) me
            (on_ring m (step ∷ []))) same
            (subst (λ pairs. Heard alone (answer_at shapes mount) (history_at old mount)
            (history_at (set old mount seen) mount) me pairs) (sym (here mount call answer))
            (subst (λ h. Heard alone (answer_at shapes mount) (history_at old mount) h me ((call, answer) ∷ []))
            (sym (get_or-set_same old mount seen [] within)) heard))
        | inr apart ↦
            subst (λ pairs. Heard alone (answer_at shapes other) (history_at old other)
            (history_at (set old mount seen) other) me pairs) (sym (elsewhere other mount call answer apart))
            (subst (λ h. Heard alone (answer_at shapes other) (history_at old other) h me [])
            (sym (get_or-set_other old mount other seen [] (λ e. apart (sym e))))
            (heard_none alone (answer_at shapes other) (history_at old other) me))
      ];
    }

-- the same of a turn at a place, among places with these meanings
pub went_turn : {P : Type 0} (shape : P → RingShape) (alone : P → Bool) (seen : P → History RingCall) (places : List P)
    (mount : ℕ) (d new : P) (me : ℕ) (call : RingCall) (answer : RingAnswer) → mount < length places
    → Heard (alone (get_or places mount d)) (ring_answer (shape (get_or places mount d)))
    (seen (get_or places mount d)) (seen new) me ((call, answer) ∷ [])
    → Went (map shape places) (list_all alone places) (map seen places) (map seen (set places mount new)) me
    (at_ring mount call answer ∷ [])
went_turn shape alone seen places mount d new me call answer within heard =
    let shapes = map shape places in
    let old = map seen places in
    let none : RingShape = record { capacity = 0; filters = [] } in
    let long : length old ≡ length places = length-map places seen in
    let here : get_or old mount [] ≡ seen (get_or places mount d) = get_or-map seen places mount d [] within in
    let shaped : get_or shapes mount none ≡ shape (get_or places mount d) =
    get_or-map shape places mount d none within in
    let less = heard_less (alone (get_or places mount d)) (list_all alone places)
    (ring_answer (shape (get_or places mount d)))
    (seen (get_or places mount d)) (seen new) me ((call, answer) ∷ []) (alone_at alone places mount d within) heard in
    let named : Heard (list_all alone places) (answer_at shapes mount) (seen (get_or places mount d)) (seen new) me
    ((call, answer) ∷ []) =
    subst (λ z. Heard (list_all alone places) (ring_answer z) (seen (get_or places mount d)) (seen new) me
    ((call, answer) ∷ [])) (sym shaped) less in
    subst (λ (now : List (History RingCall)). Went shapes (list_all alone places) old now me
    (at_ring mount call answer ∷ []))
    (sym (map-set seen places mount new))
    (went_by_one shapes (list_all alone places) old (seen new) me mount call answer (omega (arith, long, within))
    (subst (λ h. Heard (list_all alone places) (answer_at shapes mount) h (seen new) me ((call, answer) ∷ []))
    (sym here) named))

-- ---- places that are what they were, but for what they have seen

-- as many as they were
pub length_same : {P B : Type 0} (f : P → B) (old now : List P) → map f now ≡ map f old → length now ≡ length old
length_same f old now same = sym (length-map now f) ∙ ap length same ∙ length-map old f

-- the value of one of them
pub value_same : {P B : Type 0} (f : P → B) (old now : List P) (i : ℕ) (d : P) → map f now ≡ map f old
    → i < length now → f (get_or now i d) ≡ f (get_or old i d)
value_same f old now i d same within =
    sym (get_or-map f now i d (f d) within)
    ∙ ap (λ bs. get_or bs i (f d)) same
    ∙ get_or-map f old i d (f d) (omega (arith, within, length_same f old now same))

-- they speak for whom they spoke
pub speak_same : {P : Type 0} (speaks : P → ℕ → Bool) (old now : List P) (me : ℕ)
    → map speaks now ≡ map speaks old → AllSpeak speaks old me → AllSpeak speaks now me
speak_same speaks old now me same speak k d within =
    subst (λ (f : ℕ → Bool). IsTrue (f me)) (sym (value_same speaks old now k d same within))
    (speak k d (omega (arith, within, length_same speaks old now same)))

-- and are alone where they were
pub alone_same : {P : Type 0} (alone : P → Bool) (old now : List P) → map alone now ≡ map alone old
    → list_all alone now ≡ list_all alone old
alone_same alone [] [] same = refl
alone_same alone [] (place ∷ now) same = absurd cc
alone_same alone (place ∷ old) [] same = absurd cc
alone_same alone (place ∷ old) (next ∷ now) same =
    let head : alone next ≡ alone place = cc in
    let tail : map alone now ≡ map alone old = cc in
    ap (λ b. b && list_all alone now) head ∙ ap (λ b. alone place && b) (alone_same alone old now tail)

-- what shrank nowhere, and then again
pub later_both : (a b c : List ℕ) → AllLater a b → AllLater b c → AllLater a c
later_both a b c first second place = omega (arith, first place, second place)
