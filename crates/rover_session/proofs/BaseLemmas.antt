-- The base that a rover takes, and whether it is to be joined.
use Rattle.std.proofs.Common.{◌≡◌, ℕ, ◌+◌, ◌<◌, Bool, true, false, List, [], ◌∷◌, ◌++◌, length, take, drop, get_or, cond, Option, None, Some, refl, sym, ap, subst, ◌∙◌, eqb, eq-eqb}
use Rattle.std.specs.Prelude.{pos, IfSome}
use Rattle.std.specs.List.{All}
use Rattle.std.proofs.lemmas.List.{append-nil, get_or-map, map-append, take-append-drop, take_more}
use Rattle.std.proofs.lemmas.List.Elements.{All-nil, All-cons, All-head, All-tail, All-append}
use Rattle.gga_read.specs.declared.Position.{Position}
use Rattle.base_select.specs.declared.Base.{Base}
use Rattle.base_select.specs.Choice.{IsChoice, choice_of}
use Rattle.base_select.proofs.NearestLemmas.{choice_is_of}
use Rattle.base_select.proofs.LawLemmas.{among}
use Rattle.rover_session.specs.Owed.{if_live, chooses, changed}
use Rattle.turn_log.specs.History.{History}
use Rattle.mount_ring.specs.declared.call.RingCall.{RingCall}
use Rattle.mount_ring.specs.declared.call.RingCall.TheVariants.{Look}
use Rattle.mount_ring.specs.declared.call.RingAnswer.TheVariants.{Looked}
use Rattle.mount_ring.specs.declared.shape.RingShape.{RingShape}
use Rattle.session_calls.specs.Steps.{Step, at_ring}
use Rattle.session_calls.specs.Rings.{Went}
use Rattle.session_calls.proofs.WentLemmas.{went_both}
use Rattle.rover_session.specs.Standing.{AreWithin, looked, held_in, AskedEach, AskedFirst}
use Rattle.rover_session.proofs.MadeLemmas.{bases_in, looked-append, held-append}

-- ---- the choice

-- no base is held, and the choice stays
stays_present : (present : Option ℕ) → changed present present ≡ None
stays_present None = refl
stays_present (Some base) = ap (λ (same : Bool). cond same None (Some base)) (eq-eqb base base refl)

pub none_changes : (h : ℕ) (present : Option ℕ) (rover : Position) (held : List Base) → held ≡ []
    → None ≡ changed present (chooses h present rover held)
none_changes h present rover held none =
    sym (ap (λ (l : List Base). changed present (chooses h present rover l)) none ∙ stays_present present)

-- one is chosen
chooses_some : (h mount : ℕ) (present : Option ℕ) (rover : Position) (held : List Base)
    → choice_of present rover held h ≡ Some mount → chooses h present rover held ≡ Some mount
chooses_some h mount present rover [] is = absurd cc
chooses_some h mount present rover (base ∷ held) is = is

pub some_changes : (h mount : ℕ) (present : Option ℕ) (rover : Position) (held : List Base)
    → IsChoice present rover held h mount
    → changed present (Some mount) ≡ changed present (chooses h present rover held)
some_changes h mount present rover held choice =
    ap (changed present) (sym (chooses_some h mount present rover held
    ((choice_is_of present rover held h mount).0 choice)))

-- it is one of the bases that are held
nowhere : Base
nowhere = record { mount = 0; at = record { lat = pos 0; lon = pos 0 } }

mount_within : (present : Option ℕ) (rover : Position) (held : List Base) (h mount count : ℕ)
    → IsChoice present rover held h mount → AreWithin count held → mount < count
mount_within present rover held h mount count choice within =
    let chosen = among present rover held h mount choice in
    subst (λ m. m < count)
    (sym (chosen.2 ∙ get_or-map (λ (base : Base). base.mount) held chosen.0 nowhere 0 chosen.1))
    (within chosen.0 nowhere chosen.1)

-- a mountpoint that is to be joined
to_join : (present : Option ℕ) (mount : ℕ) (same : Bool) (P : ℕ → Type 0) → P mount
    → IfSome (cond same None (Some mount)) P
to_join present mount true P is = tt
to_join present mount false P is = is

changes_such : (present : Option ℕ) (mount : ℕ) (P : ℕ → Type 0) → P mount → IfSome (changed present (Some mount)) P
changes_such None mount P is = is
changes_such (Some base) mount P is = to_join (Some base) mount (eqb base mount) P is

pub some_within : (h mount : ℕ) (present to : Option ℕ) (rover : Position) (held : List Base)
    → to ≡ changed present (Some mount) → IsChoice present rover held h mount
    → (count : ℕ) → AreWithin count held → IfSome to (λ m. m < count)
some_within h mount present to rover held is choice count within =
    subst (λ (o : Option ℕ). IfSome o (λ m. m < count)) (sym is)
    (changes_such present mount (λ m. m < count) (mount_within present rover held h mount count choice within))

-- ---- what holds of all bases holds of those that are held

live_such : (P : Base → Type 0) (base : Base) (live : Option ℕ) → P base → All P (if_live base live)
live_such P base None is = All-nil P
live_such P base (Some claim) is = All-cons P base [] is (All-nil P)

pub held_such : (P : Base → Type 0) (lives : List (Base × Option ℕ)) → All P (bases_in lives) → All P (held_in lives)
held_such P [] all = All-nil P
held_such P (live ∷ lives) all =
    All-append P (if_live live.0 live.1) (held_in lives)
    (live_such P live.0 live.1 (All-head P live.0 (bases_in lives) all))
    (held_such P lives (All-tail P live.0 (bases_in lives) all))

-- the same of the bases that were asked, and of those that were held
pub asked_such : (P : Base → Type 0) (shapes : List RingShape) (alone : Bool) (old now : List (History RingCall))
    (me : ℕ) (bases held : List Base) → AskedEach shapes alone old now me bases held → All P bases → All P held
asked_such P shapes alone old now me bases held asked all =
    subst (All P) (sym asked.held_are) (held_such P asked.lives (subst (All P) asked.asked all))

-- ---- one look more

pub asked_more : (shapes : List RingShape) (alone : Bool) (old mid now : List (History RingCall)) (me : ℕ)
    (bases held : List Base) (base : Base) (live : Option ℕ) → AskedEach shapes alone old mid me bases held
    → Went shapes alone mid now me (at_ring base.mount Look (Looked live) ∷ [])
    → AskedEach shapes alone old now me (bases ++ base ∷ []) (held ++ if_live base live)
asked_more shapes alone old mid now me bases held base live asked went =
    let one : List (Base × Option ℕ) = (base, live) ∷ [] in record {
      lives = asked.lives ++ one;
      asked = ap (λ (l : List Base). l ++ base ∷ []) asked.asked
          ∙ sym (map-append (λ (l : Base × Option ℕ). l.0) asked.lives one);
      held_are = ap (λ (l : List Base). l ++ if_live base live) asked.held_are
          ∙ ap (λ (l : List Base). held_in asked.lives ++ l) (sym (append-nil (if_live base live)))
          ∙ sym (held-append asked.lives one);
      went = subst (Went shapes alone old now me) (sym (looked-append asked.lives one))
          (went_both shapes alone old mid now me (looked asked.lives) (looked one) asked.went went);
    }

-- the same by other names of equal things
pub went_as : (shapes shapes_too : List RingShape) (alone alone_too : Bool) (old now : List (History RingCall))
    (me : ℕ) (steps : List Step) → shapes_too ≡ shapes → alone_too ≡ alone → Went shapes_too alone_too old now me steps
    → Went shapes alone old now me steps
went_as shapes shapes_too alone alone_too old now me steps same_shapes same_alone went =
    subst (λ (s : List RingShape). Went s alone old now me steps) same_shapes
    (subst (λ (a : Bool). Went shapes_too a old now me steps) same_alone went)

-- the first of the bases were asked before a look was refused
pub asked_first : (shapes : List RingShape) (alone : Bool) (old mid now : List (History RingCall)) (me n : ℕ)
    (bases held : List Base) → AskedEach shapes alone old mid me (take n bases) held → now ≡ mid
    → AskedFirst shapes alone old now me bases
asked_first shapes alone old mid now me n bases held asked same = (
  take n bases,
  drop n bases,
  held,
  sym (take-append-drop n bases),
  subst (λ (h : List (History RingCall)). AskedEach shapes alone old h me (take n bases) held) (sym same) asked,
)

pub asked_next : (shapes : List RingShape) (alone : Bool) (old mid now : List (History RingCall)) (me : ℕ)
    (bases held more : List Base) (i : ℕ) (d : Base) (live : Option ℕ) → i < length bases
    → AskedEach shapes alone old mid me (take i bases) held
    → Went shapes alone mid now me (at_ring (get_or bases i d).mount Look (Looked live) ∷ [])
    → more ≡ held ++ if_live (get_or bases i d) live
    → AskedEach shapes alone old now me (take (i + 1) bases) more
asked_next shapes alone old mid now me bases held more i d live within asked went is =
    subst (λ (l : List Base). AskedEach shapes alone old now me l more) (sym (take_more bases i d within))
    (subst (AskedEach shapes alone old now me (take i bases ++ get_or bases i d ∷ [])) (sym is)
    (asked_more shapes alone old mid now me (take i bases) held (get_or bases i d) live asked went))
