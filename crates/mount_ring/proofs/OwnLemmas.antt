-- What a caller may go on to do at any place once it was given a claim, and once it joined.
use Rattle.std.proofs.Common.{◌≡◌, ℕ, ◌+◌, ◌<◌, true, [], ◌∷◌, ◌++◌, length, refl, ap, ◌∙◌, sym, subst, eq-eqb, Option, None, Some}
use Rattle.std.specs.Prelude.{◌==◌, IsTrue}
use Rattle.std.proofs.lemmas.Bool.{and_from, lt-ltb}
use Rattle.std.proofs.lemmas.List.{length-map}
use Rattle.type_filter.specs.Permitted.{permits}
use Rattle.turn_log.specs.History.{History, IsLegal, own}
use Rattle.turn_log.proofs.HistoryLaws.{fits_on, legal_front}
use Rattle.mount_ring.specs.declared.cursor.Cursor.{Cursor}
use Rattle.mount_ring.specs.declared.call.Holder.{Holder}
use Rattle.mount_ring.specs.declared.call.RingCall.{RingCall}
use Rattle.mount_ring.specs.declared.call.RingCall.TheVariants.{Claim, Publish, Join}
use Rattle.mount_ring.specs.declared.call.RingAnswer.TheVariants.{Given, Joined}
use Rattle.mount_ring.specs.declared.shape.RingShape.{RingShape}
use Rattle.mount_ring.specs.Shapes.{shape_of}
use Rattle.mount_ring.specs.History.{Shape, State, state_of, after_claim, claim_answer, answer, fits, is_holder, is_readable, joined}
use Rattle.mount_ring.specs.StillFits.{one_more, still_fits_one}
use Rattle.mount_ring.proofs.HistoryLemmas.{readable-append, readable-joined}

given_holds : (state : State) (me claim : ℕ) (holder : Option Holder) → Given claim ≡ claim_answer state holder →
    is_holder (after_claim state me holder).holder me claim ≡ true
given_holds state me claim None given =
    let is : claim ≡ state.claims + 1 = cc in
    and_from (me == me) (state.claims + 1 == claim) (eq-eqb me me refl) (eq-eqb (state.claims + 1) claim (sym is))
given_holds state me claim (Some holder) given = absurd cc

-- who was given a claim holds it
pub given_held : (shape : Shape) (h now : History RingCall) (me claim : ℕ) → now ≡ h ++ (me, Claim) ∷ [] →
    Given claim ≡ answer shape (state_of h) Claim → IsTrue (is_holder (state_of now).holder me claim)
given_held shape h now me claim is given =
    ap (λ (s : State). is_holder s.holder me claim) (ap state_of is ∙ one_more h (me, Claim))
    ∙ given_holds (state_of h) me claim (state_of h).holder given

-- and holds it still after a join of its own, whatever others did before that
pub held_joined : (shape : Shape) (h others now : History RingCall) (me claim number : ℕ) →
    IsTrue (is_holder (state_of h).holder me claim) → own me others ≡ [] →
    now ≡ (h ++ others) ++ (me, Join number) ∷ [] → IsLegal (λ h. fits shape (state_of h)) now →
    IsTrue (is_holder (state_of now).holder me claim)
held_joined shape h others now me claim number held none is legal =
    let whole : IsLegal (λ h. fits shape (state_of h)) ((h ++ others) ++ (me, Join number) ∷ []) =
    subst (λ l. IsLegal (λ h. fits shape (state_of h)) l) is legal in
    ap (λ (s : State). is_holder s.holder me claim) (ap state_of is ∙ one_more (h ++ others) (me, Join number))
    ∙ fits_on (still_fits_one shape) h others me (Publish claim []) held
    (legal_front (λ h. fits shape (state_of h)) (h ++ others) ((me, Join number) ∷ []) whole) none

-- a filter that the shape has by its number has a test there
pub known_filter : (shape : RingShape) (number : ℕ) → number < length shape.filters
    → number < length (shape_of shape).filters
known_filter shape number known = subst (λ n. number < n) (sym (length-map shape.filters permits)) known

-- who joined may read, now and once more was called
pub joined_reads : (shape later : RingShape) (h now others last : History RingCall) (me number : ℕ)
    (entry : ℕ × RingCall)
    (cursor : Cursor) → number < length shape.filters → later ≡ shape → now ≡ h ++ (me, Join number) ∷ [] →
    Joined cursor ≡ answer (shape_of shape) (state_of h) (Join number) → last ≡ (now ++ others) ++ entry ∷ [] →
    IsTrue (is_readable (shape_of later) (state_of last) cursor)
joined_reads shape later h now others last me number entry cursor known same is joins goes =
    let z = shape_of shape in
    let at : cursor ≡ joined z (state_of h) number = cc in
    let first : IsTrue (is_readable z (state_of now) cursor) =
    ap (λ (s : State). is_readable z s cursor) (ap state_of is ∙ one_more h (me, Join number))
    ∙ ap (λ (c : Cursor). is_readable z (state_of h) c) at
    ∙ readable-joined z (state_of h) number
    (lt-ltb number (length z.filters) (known_filter shape number known)) in
    ap (λ (s : RingShape). is_readable (shape_of s) (state_of last) cursor) same
    ∙ ap (λ (l : History RingCall). is_readable z (state_of l) cursor) goes
    ∙ readable-append z (now ++ others) (entry ∷ []) cursor (readable-append z now others cursor first)
