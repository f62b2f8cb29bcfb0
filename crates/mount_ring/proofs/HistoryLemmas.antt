-- What more entries change of a history's state, and of the answers that a caller had.
use Rattle.std.proofs.Common.{◌≡◌, ℕ, ◌+◌, ◌≤◌, take, leb-true, le-leb, eq-eqb, length-append, Bool, true, false, cond, List, [], ◌∷◌, ◌++◌, length, map, refl, ap, ◌∙◌, sym, arith, append_assoc, Option, None, Some}
use Rattle.std.specs.Prelude.{◌==◌, ◌&&◌, nat_le, nat_lt, fold, IfSome, count_by, slice_get}
use Rattle.std.proofs.lemmas.List.{append-nil, take-append-le, map-append}
use Rattle.turn_log.specs.History.{History}
use Rattle.turn_log.specs.Heard.{told}
use Rattle.turn_log.proofs.HeardLaws.{told-append}
use Rattle.std.proofs.Math.Seq.{take-length}
use Rattle.std.proofs.lemmas.Bool.{and_parts, and_from, eqb-true, true≢false}
use Rattle.std.proofs.lemmas.List.Sums.{fold-append}
use Rattle.mount_ring.specs.declared.call.RingCall.{RingCall}
use Rattle.mount_ring.specs.declared.call.RingCall.TheVariants.{Claim, Release, Publish, Join, Look, Read}
use Rattle.mount_ring.specs.declared.call.RingAnswer.{RingAnswer}
use Rattle.mount_ring.specs.declared.call.RingAnswer.TheVariants.{Given, Looked}
use Rattle.mount_ring.specs.declared.call.Holder.{Holder}
pub use Rattle.mount_ring.specs.Places.{published_by, frames_of}
use Rattle.mount_ring.specs.Places.{gives, claims_given, are_fit}
use Rattle.mount_ring.specs.declared.cursor.Cursor.{Cursor}
use Rattle.mount_ring.specs.Reads.{read_report}
use Rattle.mount_ring.proofs.ReadLemmas.{read_ends}
use Rattle.mount_ring.specs.History.{Shape, State, start, after, after_call, after_claim, state_of, answer, answers_since, own_answers, has_none_of, is_holder, fits, is_readable, permits_at, joined, live_claim, claim_answer}

-- the state after more entries
pub state_of-append : (history more : List (ℕ × RingCall)) → state_of (history ++ more)
    ≡ fold after (state_of history) more
state_of-append history more = fold-append after start history more

published-claim : (state : State) (me : ℕ) (holder : Option Holder) → (after_claim state me holder).published
    ≡ state.published
published-claim state me None = refl
published-claim state me (Some holder) = refl

published-call : (state : State) (me : ℕ) (call : RingCall) → (after_call state me call).published
    ≡ state.published ++ frames_of call
published-call state me Claim = published-claim state me state.holder ∙ sym (append-nil state.published)
published-call state me (Release claim) = sym (append-nil state.published)
published-call state me (Publish claim frame) = refl
published-call state me (Join filter) = sym (append-nil state.published)
published-call state me Look = sym (append-nil state.published)
published-call state me (Read cursor budget) = sym (append-nil state.published)

-- entries only add to what was published
pub published-entries : (state : State) (entries : List (ℕ × RingCall)) → (fold after state entries).published
    ≡ state.published ++ published_by entries
published-entries state [] = sym (append-nil state.published)
published-entries state (entry ∷ entries) =
    published-entries (after state entry) entries
    ∙ ap (λ l. l ++ published_by entries) (published-call state entry.0 entry.1)
    ∙ append_assoc state.published (frames_of entry.1) (published_by entries)

pub published-append : (history more : List (ℕ × RingCall)) → (state_of (history ++ more)).published
    ≡ (state_of history).published ++ published_by more
published-append history more =
    ap (λ (s : State). s.published) (state_of-append history more) ∙ published-entries (state_of history) more

-- a frame stands at the place behind those that were published before
pub last_published : (published : List (List ℕ)) (frame : List ℕ)
    → slice_get (published ++ frame ∷ []) (length published) ≡ Some frame
last_published [] frame = refl
last_published (first ∷ published) frame = last_published published frame

-- ---- answers

pub own_answers-append : (shape : Shape) (me : ℕ) (history more : History RingCall)
    → own_answers shape me (history ++ more) ≡ own_answers shape me history ++ answers_since shape me history more
own_answers-append shape me history more =
    let answers : History RingCall → ℕ → RingCall → RingAnswer = λ h by call. answer shape (state_of h) call in
    ap (map (λ (pair : RingCall × RingAnswer). pair.1)) (told-append answers me [] history more)
    ∙ map-append (λ (pair : RingCall × RingAnswer). pair.1) (told answers me [] history) (told answers me history more)

-- ---- claims and the holder

claims-claim : (shape : Shape) (state : State) (me : ℕ) (holder : Option Holder) →
    (after_claim state me holder).claims ≡ state.claims + gives (claim_answer state holder)
claims-claim shape state me None = refl
claims-claim shape state me (Some holder) = omega arith

claims-call : (shape : Shape) (state : State) (me : ℕ) (call : RingCall) →
    (after_call state me call).claims ≡ state.claims + gives (answer shape state call)
claims-call shape state me Claim = claims-claim shape state me state.holder
claims-call shape state me (Release claim) = omega arith
claims-call shape state me (Publish claim frame) = omega arith
claims-call shape state me (Join filter) = omega arith
claims-call shape state me Look = omega arith
claims-call shape state me (Read cursor budget) = omega arith

-- the claims of a state are those that were given
pub claims-entries : (shape : Shape) (state : State) (entries : List (ℕ × RingCall)) →
    (fold after state entries).claims ≡ state.claims + claims_given shape state entries
claims-entries shape state [] = omega arith
claims-entries shape state (entry ∷ entries) =
    omega (arith, claims-entries shape (after state entry) entries, claims-call shape state entry.0 entry.1)

claims_of : (shape : Shape) (history : List (ℕ × RingCall))
    → (state_of history).claims ≡ claims_given shape start history
claims_of shape history = omega (arith, claims-entries shape start history)

pub claim_given : (shape : Shape) (history : List (ℕ × RingCall)) → (state_of history).holder ≡ None →
    answer shape (state_of history) Claim ≡ Given (claims_given shape start history + 1)
claim_given shape history free =
    ap (λ (o : Option Holder). claim_answer (state_of history) o) free
    ∙ ap (λ (n : ℕ). Given (n + 1)) (claims_of shape history)

pub claim_held : (shape : Shape) (history : List (ℕ × RingCall)) (me : ℕ) → (state_of history).holder ≡ None →
    (after_call (state_of history) me Claim).holder
    ≡ Some (record { caller = me; claim = claims_given shape start history + 1 })
claim_held shape history me free =
    let holder : ℕ → Option Holder = λ n. Some (record { caller = me; claim = n + 1 }) in
    ap (λ (o : Option Holder). (after_claim (state_of history) me o).holder) free ∙ ap holder (claims_of shape history)

-- who holds the mountpoint has the claim that was given last
abbrev pub IsLatest : State → Type 0
IsLatest state = IfSome state.holder (λ holder. holder.claim ≡ state.claims)

latest-claim : (state : State) (me : ℕ) (holder : Option Holder) → IsLatest state
    → IsLatest (after_claim state me holder)
latest-claim state me None h = refl
latest-claim state me (Some holder) h = h

latest-call : (state : State) (me : ℕ) (call : RingCall) → IsLatest state → IsLatest (after_call state me call)
latest-call state me Claim h = latest-claim state me state.holder h
latest-call state me (Release claim) h = tt
latest-call state me (Publish claim frame) h = h
latest-call state me (Join filter) h = h
latest-call state me Look h = h
latest-call state me (Read cursor budget) h = h

pub latest-entries : (state : State) (entries : List (ℕ × RingCall)) → IsLatest state
    → IsLatest (fold after state entries)
latest-entries state [] h = h
latest-entries state (entry ∷ entries) h = latest-entries (after state entry) entries
    (latest-call state entry.0 entry.1 h)

pub one_holder : (holder : Option Holder) (me by claim other : ℕ) → is_holder holder me claim ≡ true
    → is_holder holder by other ≡ true →
    (me ≡ by) × (claim ≡ other)
one_holder None me by claim other mine theirs = absurd cc
one_holder (Some holder) me by claim other mine theirs =
    let a : ((holder.caller == me) ≡ true) × ((holder.claim == claim) ≡ true) = and_parts _ _ mine in
    let b : ((holder.caller == by) ≡ true) × ((holder.claim == other) ≡ true) = and_parts _ _ theirs in (
      sym (eqb-true holder.caller me a.0) ∙ eqb-true holder.caller by b.0,
      sym (eqb-true holder.claim claim a.1)
          ∙ eqb-true holder.claim other b.1,
    )

live_held : (holder : Option Holder) (by claim : ℕ) → is_holder holder by claim ≡ true → live_claim holder ≡ Some claim
live_held None by claim held = absurd cc
live_held (Some holder) by claim held = ap (λ (n : ℕ). Some n) (eqb-true holder.claim claim (and_parts _ _ held).1)

pub look_held : (shape : Shape) (state : State) (by claim : ℕ) → is_holder state.holder by claim ≡ true →
    answer shape state Look ≡ Looked (Some claim)
look_held shape state by claim held = ap (λ (o : Option ℕ). Looked o) (live_held state.holder by claim held)

pub look_free : (shape : Shape) (state : State) → state.holder ≡ None → answer shape state Look ≡ Looked None
look_free shape state free = ap (λ (o : Option Holder). Looked (live_claim o)) free

held-claim : (state : State) (by me claim : ℕ) (holder : Option Holder) → state.holder ≡ holder
    → is_holder holder me claim ≡ true →
    is_holder (after_claim state by holder).holder me claim ≡ true
held-claim state by me claim None at h = absurd cc
held-claim state by me claim (Some holder) at h = ap (λ (o : Option Holder). is_holder o me claim) at ∙ h

held-call : (shape : Shape) (state : State) (by me claim : ℕ) (call : RingCall) → (by == me) ≡ false
    → is_holder state.holder me claim ≡ true →
    fits shape state by call ≡ true → is_holder (after_call state by call).holder me claim ≡ true
held-call shape state by me claim Claim other h may = held-claim state by me claim state.holder refl h
held-call shape state by me claim (Release given) other h may =
    absurd (true≢false (sym (eq-eqb by me (one_holder state.holder by me given claim may h).0) ∙ other))
held-call shape state by me claim (Publish given frame) other h may = h
held-call shape state by me claim (Join filter) other h may = h
held-call shape state by me claim Look other h may = h
held-call shape state by me claim (Read cursor budget) other h may = h

other_by : (own others : Bool) → cond own false others ≡ true → (own ≡ false) × (others ≡ true)
other_by true others h = absurd cc
other_by false others h = (refl, h)

-- a holder goes on to hold over fitting calls of others
pub held-entries : (shape : Shape) (state : State) (me claim : ℕ) (entries : List (ℕ × RingCall))
    → is_holder state.holder me claim ≡ true →
    are_fit shape state entries ≡ true → has_none_of me entries ≡ true
    → is_holder (fold after state entries).holder me claim ≡ true
held-entries shape state me claim [] h may none = h
held-entries shape state me claim (entry ∷ entries) h may none =
    let fit : (fits shape state entry.0 entry.1 ≡ true) × (are_fit shape (after state entry) entries ≡ true) =
    and_parts _ _ may in
    let other : ((entry.0 == me) ≡ false) × (has_none_of me entries ≡ true) = other_by _ _ none in
    held-entries shape (after state entry) me claim entries
    (held-call shape state entry.0 me claim entry.1 other.0 h fit.0) fit.1 other.1

pub held-append : (shape : Shape) (history more : List (ℕ × RingCall)) (me claim : ℕ)
    → is_holder (state_of history).holder me claim ≡ true →
    are_fit shape (state_of history) more ≡ true → has_none_of me more ≡ true
    → is_holder (state_of (history ++ more)).holder me claim ≡ true
held-append shape history more me claim h may none =
    ap (λ (s : State). is_holder s.holder me claim) (state_of-append history more)
    ∙ held-entries shape (state_of history) me claim more h may none

-- ---- cursors

-- what a cursor that may be read is
abbrev pub Readable : Shape → State → Cursor → Type 0
Readable shape state cursor =
    (cursor.next ≤ length state.published) × (nat_lt cursor.filter (length shape.filters) ≡ true)
    × (cursor.passed ≡ count_by (permits_at shape cursor.filter) (take cursor.next state.published))

pub readable_parts : (shape : Shape) (state : State) (cursor : Cursor) → is_readable shape state cursor ≡ true
    → Readable shape state cursor
readable_parts shape state cursor h =
    let a : (nat_le cursor.next (length state.published) ≡ true)
    × ((nat_lt cursor.filter
    (length shape.filters)
    && (cursor.passed == count_by (permits_at shape cursor.filter) (take cursor.next state.published))) ≡ true) =
    and_parts _ _ h in
    let b : (nat_lt cursor.filter (length shape.filters) ≡ true)
    × ((cursor.passed == count_by (permits_at shape cursor.filter) (take cursor.next state.published)) ≡ true) =
    and_parts _ _ a.1 in
    (leb-true cursor.next (length state.published) a.0, b.0, eqb-true cursor.passed _ b.1)

pub readable_from : (shape : Shape) (state : State) (cursor : Cursor) → Readable shape state cursor
    → is_readable shape state cursor ≡ true
readable_from shape state cursor h =
    and_from (nat_le cursor.next (length state.published)) _ (le-leb cursor.next (length state.published) h.0)
    (and_from (nat_lt cursor.filter (length shape.filters))
    (cursor.passed == count_by (permits_at shape cursor.filter) (take cursor.next state.published))
    h.1 (eq-eqb cursor.passed _ h.2))

-- it may be read as well when more was published
pub readable-more : (shape : Shape) (state later : State) (more : List (List ℕ)) (cursor : Cursor)
    → later.published ≡ state.published ++ more →
    is_readable shape state cursor ≡ true → is_readable shape later cursor ≡ true
readable-more shape state later more cursor goes h =
    let now : Readable shape state cursor = readable_parts shape state cursor h in
    let longer : cursor.next ≤ length later.published =
    omega (arith, now.0, ap length goes, length-append state.published more) in
    let front : take cursor.next later.published ≡ take cursor.next state.published =
    ap (λ l. take cursor.next l) goes ∙ take-append-le cursor.next state.published more now.0 in
    readable_from shape later cursor (longer, now.1, now.2 ∙ ap (count_by (permits_at shape cursor.filter)) (sym front))

pub readable-append : (shape : Shape) (history more : List (ℕ × RingCall)) (cursor : Cursor)
    → is_readable shape (state_of history) cursor ≡ true →
    is_readable shape (state_of (history ++ more)) cursor ≡ true
readable-append shape history more cursor h =
    readable-more shape (state_of history) (state_of (history ++ more)) (published_by more) cursor
    (published-append history more) h

-- one who joined may read
pub readable-joined : (shape : Shape) (state : State) (filter : ℕ) → nat_lt filter (length shape.filters) ≡ true →
    is_readable shape state (joined shape state filter) ≡ true
readable-joined shape state filter known =
    readable_from shape state (joined shape state filter)
    (omega arith, known, ap (count_by (permits_at shape filter)) (sym (take-length state.published)))

-- the cursor of a read may be read
pub readable-read : (shape : Shape) (state : State) (cursor : Cursor) (budget : ℕ) → is_readable shape state cursor
    ≡ true →
    is_readable shape state
    (read_report (permits_at shape cursor.filter) shape.capacity state.published cursor budget).cursor ≡ true
readable-read shape state cursor budget h =
    let now : Readable shape state cursor = readable_parts shape state cursor h in
    readable_from shape state
    (read_report (permits_at shape cursor.filter) shape.capacity state.published cursor budget).cursor
    ((read_ends (permits_at shape cursor.filter) shape.capacity state.published cursor budget now.0).1, now.1, refl)
