-- Callers that sit down at the locks of a caster, and leave them.
use Rattle.std.proofs.Common.{◌≡◌, ◌∙◌, ◌+◌, ◌≤◌, ◌++◌, ℕ, List, [], ◌∷◌, length, map, refl, sym, ap, subst, arith, append_assoc, append-nil, length-append}
use Rattle.std.specs.Prelude.{vec_len, vec_capacity, Vec}
use Rattle.std.specs.Global.{Global}
use Rattle.std.specs.List.{All}
use Rattle.std.proofs.lemmas.List.{map-append, length-map}
use Rattle.std.proofs.lemmas.List.Elements.{All-nil, All-cons}
use mathlib.Core.Option.{some}
use lib.ListN.{get_elem?}
use Rattle.turn_log.specs.History.{History, IsLegal}
use Rattle.caster_accounts.specs.History.{fits}
use Rattle.turn_log.specs.declared.object.Played.{Ghosts}
use Rattle.turn_log.specs.declared.lock.parts.Turn.{Turn}
use Rattle.turn_log.specs.declared.lock.parts.Pass.{Pass}
use Rattle.turn_log.specs.Lock.{turn_value, pass_number, pass_seen, IsPassOf}
use Rattle.mount_ring.specs.Kept.{ring_shape}
use Rattle.session_calls.specs.Rings.{AllLater}
use Rattle.session_model.specs.Run.{Histories, nothing_called}
use Rattle.caster_places.specs.Piles.{AreMatched}
use Rattle.caster_places.specs.Rows.{AreAt, ArePiles, HaveRoom, RingLocks, BookLock}
use Rattle.caster_places.specs.declared.pass_piles.PassPiles.{PassPiles}
use Rattle.caster_seats.specs.declared.shared.Shared.{Shared}
use Rattle.caster_seats.specs.declared.shared.Passes.{Passes}
use Rattle.caster_seats.specs.Sharing.{AreNewPasses, ArePassesOf, IsNewPass, IsReady, seen_by}
use Rattle.caster_seats.specs.SeatedCallers.{SeatedTold}
use Rattle.caster_seats.specs.Seated.{AreSeated, IsSeated, AreAllAt, AreBelow, AreLegal, HaveLeft, HavePlaces, TookWork, rows_of, works_of}
use Rattle.session_core.proofs.HeldLemmas.{length_shapes}
use Rattle.caster_places.proofs.ListLemmas.{at_front, at_back}
use Rattle.caster_seats.proofs.SharingLemmas.{matched-weaker}

-- ---- passes that have seen nothing

module _ {V C A R S : Type 0} {g : Ghosts V C A R S} where
  all_numbered : (number : ℕ) (passes : List (Pass V C A R S g)) (locks : List (Turn V C A R S))
      → AreMatched (IsNewPass number) passes locks → All (λ pass. pass_number pass ≡ number) passes
  all_numbered number [] [] fresh = All-nil (λ pass. pass_number pass ≡ number)
  all_numbered number [] (lock ∷ locks) fresh = absurd fresh
  all_numbered number (pass ∷ passes) [] fresh = absurd fresh
  all_numbered number (pass ∷ passes) (lock ∷ locks) fresh =
      All-cons (λ pass. pass_number pass ≡ number) pass passes fresh.0.numbered
      (all_numbered number passes locks fresh.1)

  all_unseen : (number : ℕ) (passes : List (Pass V C A R S g)) (locks : List (Turn V C A R S))
      → AreMatched (IsNewPass number) passes locks → map pass_seen passes ≡ map (λ lock. []) locks
  all_unseen number [] [] fresh = refl
  all_unseen number [] (lock ∷ locks) fresh = absurd fresh
  all_unseen number (pass ∷ passes) [] fresh = absurd fresh
  all_unseen number (pass ∷ passes) (lock ∷ locks) fresh =
      ap (λ h. h ∷ map pass_seen passes) fresh.0.unseen ∙ ap (λ l. [] ∷ l) (all_unseen number passes locks fresh.1)

as_many : {X Y Z : Type 0} (z : Z) (xs : List X) (ys : List Y) → length xs ≡ length ys
    → map (λ (x : X). z) xs ≡ map (λ (y : Y). z) ys
as_many z [] [] same = refl
as_many z [] (y ∷ ys) same = absurd (omega (arith, same))
as_many z (x ∷ xs) [] same = absurd (omega (arith, same))
as_many z (x ∷ xs) (y ∷ ys) same = ap (λ l. z ∷ l) (as_many z xs ys (omega (arith, same)))

-- new passes are passes, all of this number
pub are_passes : (number : ℕ) (passes : Passes) (shared : Shared) → AreNewPasses number passes shared
    → ArePassesOf number passes shared
are_passes number passes shared fresh = record {
  rings = matched-weaker (IsNewPass number) IsPassOf passes.rings.items shared.rings.items (λ pass turn is. is.here)
      fresh.rings;
  numbered = all_numbered number passes.rings.items shared.rings.items fresh.rings;
  book = fresh.book.here;
  book_numbered = fresh.book.numbered;
}

-- they have seen that nothing was called
pub unseen : (number : ℕ) (passes : Passes) (shared : Shared) → IsReady shared → AreNewPasses number passes shared
    → seen_by passes ≡ nothing_called shared.config.now
unseen number passes shared ready fresh =
    let long : length shared.rings.items ≡ length shared.config.now.mount =
    sym (length-map shared.rings.items (λ turn. ring_shape (turn_value turn))) ∙ ap length ready.shapes_are
    ∙ length_shapes shared.config.now in
    ap (λ rings. record { rings = rings; book = pass_seen passes.book })
    (all_unseen number passes.rings.items shared.rings.items fresh.rings
    ∙ as_many [] shared.rings.items shared.config.now.mount long)
    ∙ ap (λ (book : History _). record { rings = map (λ mount. []) shared.config.now.mount; book = book })
    fresh.book.unseen

-- ---- callers that sat down

pub seated_none : {X : Type 0} (shared : Shared) (works : List X) → length works ≡ 0 → AreSeated shared 0 works []
seated_none shared [] none = tt
seated_none shared (work ∷ works) none = absurd (omega (arith, none))

seated-snoc : {X : Type 0} (shared : Shared) (n : ℕ) (works : List X) (hands : List (SeatedTold X)) (work : X)
    (hand : SeatedTold X) → AreSeated shared n works hands → IsSeated shared (n + length works) work hand
    → AreSeated shared n (works ++ work ∷ []) (hands ++ hand ∷ [])
seated-snoc shared n [] [] work hand so_far one = (subst (λ (k : ℕ). IsSeated shared k work hand) (omega arith) one, tt)
seated-snoc shared n [] (x ∷ hands) work hand so_far one = absurd so_far
seated-snoc shared n (w ∷ works) [] work hand so_far one = absurd so_far
seated-snoc shared n (w ∷ works) (x ∷ hands) work hand so_far one = (
  so_far.0,
  seated-snoc shared (n + 1) works hands work hand so_far.1
      (subst (λ (k : ℕ). IsSeated shared k work hand) (omega arith) one),
)

-- one more sat down behind the others
pub seated_more : {X Y : Type 0} (shared : Shared) (told : Y → SeatedTold X) (works front : List X) (work : X)
    (old mid new more : List Y) (hand : Y) (number : ℕ) → works ≡ front ++ work ∷ [] → mid ≡ old ++ more
    → AreSeated shared 0 front (map told more) → new ≡ mid ++ hand ∷ [] → number ≡ length front
    → IsSeated shared number work (told hand)
    → (x : List Y) × (new ≡ old ++ x) × AreSeated shared 0 works (map told x)
seated_more shared told works front work old mid new more hand number is before so_far pushed long one = (
  more ++ hand ∷ [],
  pushed ∙ ap (λ l. l ++ hand ∷ []) before ∙ append_assoc old more (hand ∷ []),
  subst (λ l. AreSeated shared 0 l (map told (more ++ hand ∷ []))) (sym is)
      (subst (AreSeated shared 0 (front ++ work ∷ [])) (sym (map-append told more (hand ∷ [])))
      (seated-snoc shared 0 front (map told more) work (told hand) so_far
      (subst (λ (k : ℕ). IsSeated shared k work (told hand)) (omega (arith, long)) one))),
)

-- all, where nobody sat down before
pub all_seated : {X Y : Type 0} (shared : Shared) (told : Y → SeatedTold X) (works : List X) (none all more : List Y)
    → none ≡ [] → all ≡ none ++ more → AreSeated shared 0 works (map told more) → AreSeated shared 0 works (map told all)
all_seated shared told works none all more empty is seated =
    subst (λ l. AreSeated shared 0 works (map told l)) (sym (is ∙ ap (λ l. l ++ more) empty)) seated

-- ---- callers that leave

all_at-last : {X : Type 0} (n : ℕ) (hands : List (SeatedTold X)) (hand : SeatedTold X) (rings : RingLocks) (book : BookLock)
    → AreAllAt n (hands ++ hand ∷ []) rings book
    → AreAllAt n hands rings book × AreAt (n + length hands) hand.known rings book
all_at-last n [] hand rings book all = (tt, subst (λ (k : ℕ). AreAt k hand.known rings book) (omega arith) all.0)
all_at-last n (x ∷ hands) hand rings book all =
    let later = all_at-last (n + 1) hands hand rings book all.1 in
    ((all.0, later.0), subst (λ (k : ℕ). AreAt k hand.known rings book) (omega arith) later.1)

pub left_none : {X Y : Type 0} (told : Y → SeatedTold X) (hands : List Y) (piles : PassPiles) → hands ≡ []
    → HaveLeft (map told hands) piles piles
left_none told hands piles none rows rings book all so_far =
    subst (λ l. ArePiles (rows ++ rows_of (map told l)) piles rings book) (sym none)
    (subst (λ l. ArePiles l piles rings book) (sym (append-nil rows)) so_far)

-- the last of them left behind the others
pub left_more : {X Y : Type 0} (told : Y → SeatedTold X) (hands front : List Y) (last : Y) (old mid new : PassPiles)
    → hands ≡ front ++ last ∷ [] → HaveLeft (map told front) old mid
    → ((number : ℕ) (rows : List Histories) (rings : RingLocks) (book : BookLock)
    → AreAt number (told last).known rings book → number ≡ length rows → ArePiles rows mid rings book
    → ArePiles (rows ++ (told last).seen ∷ []) new rings book)
    → HaveLeft (map told hands) old new
left_more {X} told hands front last old mid new is before one rows rings book all so_far =
    let told_are : map told hands ≡ map told front ++ told last ∷ [] =
    ap (map told) is ∙ map-append told front (last ∷ []) in
    let split = all_at-last (length rows) (map told front) (told last) rings book
    (subst (λ l. AreAllAt (length rows) l rings book) told_are all) in
    let first = before rows rings book split.0 so_far in
    let number = length rows + length (map told front) in
    let long : number ≡ length (rows ++ rows_of (map told front)) =
    omega (
      arith,
      length-append rows (rows_of (map told front)),
      length-map (map told front) (λ (hand : SeatedTold X). hand.seen),
    ) in
    subst (λ l. ArePiles l new rings book)
    (append_assoc rows (rows_of (map told front)) ((told last).seen ∷ [])
    ∙ ap (λ l. rows ++ l) (sym (ap rows_of told_are
    ∙ map-append (λ (hand : SeatedTold X). hand.seen) (map told front) (told last ∷ []))))
    (one number (rows ++ rows_of (map told front)) rings book split.1 long first)

places-last : {X : Type 0} (n : ℕ) (hands : List (SeatedTold X)) (hand : SeatedTold X) → HavePlaces n (hands ++ hand ∷ [])
    → HavePlaces n hands × (length hand.known.homes ≡ n)
places-last n [] hand all = (tt, all.0)
places-last n (x ∷ hands) hand all =
    let later = places-last n hands hand all.1 in ((all.0, later.0), later.1)

-- the last has its places, and so have those before it
pub places_split : {X Y : Type 0} (told : Y → SeatedTold X) (n : ℕ) (hands front : List Y) (last : Y)
    → hands ≡ front ++ last ∷ [] → HavePlaces n (map told hands)
    → HavePlaces n (map told front) × (length (told last).known.homes ≡ n)
places_split told n hands front last is all =
    places-last n (map told front) (told last)
    (subst (HavePlaces n) (ap (map told) is ∙ map-append told front (last ∷ [])) all)

legal-snoc : {X : Type 0} (hands : List (SeatedTold X)) (hand : SeatedTold X) → AreLegal hands
    → IsLegal (fits hand.known.caps_are) hand.seen.book → AreLegal (hands ++ hand ∷ [])
legal-snoc [] hand all one = (one, tt)
legal-snoc (x ∷ hands) hand all one = (all.0, legal-snoc hands hand all.1 one)

pub legal_more : {X Y : Type 0} (told : Y → SeatedTold X) (hands front : List Y) (last : Y)
    → hands ≡ front ++ last ∷ [] → AreLegal (map told front)
    → IsLegal (fits (told last).known.caps_are) (told last).seen.book → AreLegal (map told hands)
legal_more told hands front last is all one =
    subst AreLegal (sym (ap (map told) is ∙ map-append told front (last ∷ [])))
    (legal-snoc (map told front) (told last) all one)

pub below_none : {X Y : Type 0} (told : Y → SeatedTold X) (worn : List ℕ) (hands : List Y) → length hands ≡ 0
    → AreBelow worn (map told hands)
below_none told worn [] none = tt
below_none told worn (hand ∷ hands) none = absurd (omega (arith, none))

below-snoc : {X : Type 0} (worn : List ℕ) (hands : List (SeatedTold X)) (hand : SeatedTold X) → AreBelow worn hands → AllLater hand.worn worn
    → AreBelow worn (hands ++ hand ∷ [])
below-snoc worn [] hand all one = (one, tt)
below-snoc worn (x ∷ hands) hand all one = (all.0, below-snoc worn hands hand all.1 one)

pub below_more : {X Y : Type 0} (told : Y → SeatedTold X) (worn : List ℕ) (hands front : List Y) (last : Y)
    → hands ≡ front ++ last ∷ [] → AreBelow worn (map told front) → AllLater (told last).worn worn
    → AreBelow worn (map told hands)
below_more told worn hands front last is all one =
    subst (AreBelow worn) (sym (ap (map told) is ∙ map-append told front (last ∷ [])))
    (below-snoc worn (map told front) (told last) all one)

-- ---- the passes of all callers

pub last_new : (passes front : List Passes) (last : Passes) (shared : Shared) → passes ≡ front ++ last ∷ []
    → ((number : ℕ) (pass : Passes) → get_elem? passes number ≡ some pass → AreNewPasses number pass shared)
    → AreNewPasses (length front) last shared
last_new passes front last shared is each =
    each (length front) last (ap (λ l. get_elem? l (length front)) is ∙ at_back front last)

pub front_new : (passes front : List Passes) (last : Passes) (shared : Shared) → passes ≡ front ++ last ∷ []
    → ((number : ℕ) (pass : Passes) → get_elem? passes number ≡ some pass → AreNewPasses number pass shared)
    → (number : ℕ) (pass : Passes) → get_elem? front number ≡ some pass → AreNewPasses number pass shared
front_new passes front last shared is each number pass here =
    each number pass (ap (λ l. get_elem? l number) is ∙ at_front front last pass number here)

-- ---- room in the piles

pub less_room : (more less : ℕ) (piles : PassPiles) → less ≤ more → HaveRoom more piles → HaveRoom less piles
less_room more less piles fewer room = record {
  rings = λ k d within. omega (arith, fewer, room.rings k d within);
  book = omega (arith, fewer, room.book);
}

pub one_longer : {X : Type 0} (hands front : List X) (last : X) → hands ≡ front ++ last ∷ []
    → length hands ≡ length front + 1
one_longer hands front last is = ap length is ∙ length-append front (last ∷ [])

-- ---- work that is taken in

pub work_none : {X Y : Type 0} (told : Y → SeatedTold X) (hands : List Y) (list : Vec X Global) → length hands ≡ 0
    → TookWork told hands list list
work_none told [] list none = record {
  works = sym (append-nil list.items);
  count = omega arith;
  capacity = omega arith;
}
work_none told (hand ∷ hands) list none = absurd (omega (arith, none))

pub work_more : {X Y : Type 0} (told : Y → SeatedTold X) (hands front : List Y) (last : Y) (old mid new : Vec X Global)
    → hands ≡ front ++ last ∷ [] → TookWork told front old mid → new.items ≡ mid.items ++ (told last).work ∷ []
    → vec_len new ≡ vec_len mid + 1 → vec_capacity new ≡ vec_capacity mid → TookWork told hands old new
work_more {X} told hands front last old mid new is before pushed longer same = record {
  works = pushed ∙ ap (λ l. l ++ (told last).work ∷ []) before.works
      ∙ append_assoc old.items (works_of (map told front)) ((told last).work ∷ [])
      ∙ ap (λ l. old.items ++ l) (sym (ap works_of (ap (map told) is ∙ map-append told front (last ∷ []))
      ∙ map-append (λ (hand : SeatedTold X). hand.work) (map told front) (told last ∷ [])));
  count = omega (arith, longer, before.count, one_longer hands front last is);
  capacity = omega (arith, same, before.capacity);
}
