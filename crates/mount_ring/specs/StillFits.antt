-- What fits a history also fits it followed by a fitting entry of another caller.
use Rattle.std.specs.Prelude.{◌≡◌, ◌≢◌, ℕ, ◌≤◌, ◌==◌, nat_le, nat_lt, ◌&&◌, Bool, true, List, [], ◌∷◌, ◌++◌, length, take, IsTrue, Option, None, Some}
use Rattle.std.specs.List.{count_by}
use Rattle.std.proofs.Common.{refl, ap, ◌∙◌, sym, arith, length-append}
use Rattle.std.proofs.lemmas.Bool.{and_parts, leb-true, le-leb, eqb-true}
use Rattle.std.proofs.lemmas.List.{take-append-le}
use Rattle.std.proofs.lemmas.List.Sums.{fold-append}
use Rattle.mount_ring.specs.declared.cursor.Cursor.{Cursor}
use Rattle.mount_ring.specs.declared.call.RingCall.{RingCall}
use Rattle.mount_ring.specs.declared.call.RingCall.TheVariants.{Claim, Release, Publish, Join, Look, Read}
use Rattle.mount_ring.specs.declared.call.Holder.{Holder}
use Rattle.mount_ring.specs.History.{Shape, State, start, state_of, fits, after, after_call, after_claim, is_holder, is_readable, permits_at}

-- the state after one more entry
pub one_more : (h : List (ℕ × RingCall)) (entry : ℕ × RingCall) →
    state_of (h ++ entry ∷ []) ≡ after (state_of h) entry
one_more h entry = fold-append after start h (entry ∷ [])

-- two callers that hold a mountpoint are one
same_holder : (holder : Option Holder) (me by claim other : ℕ) →
    is_holder holder me claim ≡ true → is_holder holder by other ≡ true → by ≡ me
same_holder None me by claim other mine theirs = absurd cc
same_holder (Some holder) me by claim other mine theirs =
    sym (eqb-true holder.caller by (and_parts _ _ theirs).0)
    ∙ eqb-true holder.caller me (and_parts _ _ mine).0

-- a claim changes nothing where there is a holder
claim_keeps : (state : State) (by me claim : ℕ) (holder : Option Holder) →
    state.holder ≡ holder → is_holder holder me claim ≡ true →
    is_holder (after_claim state by holder).holder me claim ≡ true
claim_keeps state by me claim None at mine = absurd cc
claim_keeps state by me claim (Some holder) at mine =
    ap (λ (o : Option Holder). is_holder o me claim) at ∙ mine

-- the holder still holds after a fitting call of another caller
holder_keeps : (shape : Shape) (state : State) (me by claim : ℕ) (call : RingCall) →
    by ≢ me → is_holder state.holder me claim ≡ true → IsTrue (fits shape state by call) →
    is_holder (after_call state by call).holder me claim ≡ true
holder_keeps shape state me by claim Claim apart mine fitting =
    claim_keeps state by me claim state.holder refl mine
holder_keeps shape state me by claim (Release given) apart mine fitting =
    absurd (apart (same_holder state.holder me by claim given mine fitting))
holder_keeps shape state me by claim (Publish given frame) apart mine fitting = mine
holder_keeps shape state me by claim (Join filter) apart mine fitting = mine
holder_keeps shape state me by claim Look apart mine fitting = mine
holder_keeps shape state me by claim (Read cursor budget) apart mine fitting = mine

-- a cursor may still be read from when one more frame was published
readable_keeps : (shape : Shape) (state : State) (frame : List ℕ) (cursor : Cursor) →
    is_readable shape state cursor ≡ true →
    is_readable shape (record state { published = state.published ++ frame ∷ [] }) cursor ≡ true
readable_keeps shape state frame cursor may =
    let longer : List (List ℕ) = state.published ++ frame ∷ [] in
    let parts = and_parts (nat_le cursor.next (length state.published)) _ may in
    let within : cursor.next ≤ length state.published =
    leb-true cursor.next (length state.published) parts.0 in
    let inside : nat_le cursor.next (length longer) ≡ true =
    le-leb cursor.next (length longer)
    (omega (arith, within, length-append state.published (frame ∷ []))) in
    let front : take cursor.next longer ≡ take cursor.next state.published =
    take-append-le cursor.next state.published (frame ∷ []) within in
    let counts : ℕ → List (List ℕ) → Bool = λ known xs.
    nat_lt cursor.filter known
    && (cursor.passed == count_by (permits_at shape cursor.filter) xs) in
    ap (λ b. b && counts (length shape.filters) (take cursor.next longer)) inside
    ∙ ap (counts (length shape.filters)) front ∙ parts.1

-- and after any other call
readable_after : (shape : Shape) (state : State) (by : ℕ) (call : RingCall) (cursor : Cursor) →
    is_readable shape state cursor ≡ true →
    is_readable shape (after_call state by call) cursor ≡ true
readable_after shape state by Claim cursor may = readable_claim state.holder where
  readable_claim : (holder : Option Holder) →
      is_readable shape (after_claim state by holder) cursor ≡ true
  readable_claim None = may
  readable_claim (Some holder) = may
readable_after shape state by (Release given) cursor may = may
readable_after shape state by (Publish given frame) cursor may =
    readable_keeps shape state frame cursor may
readable_after shape state by (Join filter) cursor may = may
readable_after shape state by Look cursor may = may
readable_after shape state by (Read other budget) cursor may = may

fits_after : (shape : Shape) (state : State) (me by : ℕ) (call other : RingCall) →
    by ≢ me → fits shape state me call ≡ true → IsTrue (fits shape state by other) →
    fits shape (after_call state by other) me call ≡ true
fits_after shape state me by Claim other apart mine theirs = refl
fits_after shape state me by (Release claim) other apart mine theirs =
    holder_keeps shape state me by claim other apart mine theirs
fits_after shape state me by (Publish claim frame) other apart mine theirs =
    holder_keeps shape state me by claim other apart mine theirs
fits_after shape state me by (Join filter) other apart mine theirs = mine
fits_after shape state me by Look other apart mine theirs = refl
fits_after shape state me by (Read cursor budget) other apart mine theirs =
    readable_after shape state by other cursor mine

-- what fits a history fits it with one more entry, as an object of turns has to show
pub still_fits_one : (shape : Shape) (h : List (ℕ × RingCall))
    (me by : ℕ) (call other : RingCall) →
    IsTrue (fits shape (state_of h) me call) → by ≢ me →
    IsTrue (fits shape (state_of h) by other) →
    IsTrue (fits shape (state_of (h ++ (by, other) ∷ [])) me call)
still_fits_one shape h me by call other mine apart theirs =
    ap (λ (s : State). fits shape s me call) (one_more h (by, other))
    ∙ fits_after shape (state_of h) me by call other apart mine theirs
