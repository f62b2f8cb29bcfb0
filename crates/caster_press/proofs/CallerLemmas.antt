-- Callers at a press, each with its work.
use Rattle.std.proofs.Common.{◌≡◌, ◌∙◌, ◌+◌, ◌<◌, ℕ, zero, suc, false, true, Bool, IsTrue, List, [], ◌∷◌, ◌++◌, length, map, take, drop, refl, sym, ap, subst, arith, append_assoc, length-append}
use Rattle.std.specs.Prelude.{Option, slice_index_or}
use Rattle.std.specs.List.{All}
use Rattle.std.proofs.lemmas.Bool.{eq-eqb}
use Rattle.std.proofs.lemmas.List.{length-map, map-append}
use Rattle.std.proofs.lemmas.List.Elements.{All-nil, All-cons, All-head, All-tail}
use mathlib.Core.Option.{some, some-injective, some-ne-none}
use lib.ListN.{get_elem?}
use Rattle.turn_log.specs.declared.object.Played.{Ghosts}
use Rattle.turn_log.specs.declared.lock.parts.Pass.{Pass}
use Rattle.turn_log.specs.History.{History, own}
use Rattle.caster_press.specs.declared.line.Line.{Line}
use Rattle.caster_press.specs.declared.press.OutputStart.{OutputStart}
use Rattle.caster_press.specs.Callers.{AreCallers, AreNewCallers, CallerTold, HasCalled, HaveCalled, HaveLeft, HaveWritten, IsCaller, MayCall, Wrote, lines_put, rows_of}
use Rattle.caster_press.specs.Lines.{text_in}
use Rattle.caster_press.specs.Piles.{IsPile, IsWhole}
use Rattle.caster_press.specs.Places.{IsAt, LockTold}
use Rattle.caster_press.specs.Written.{IsWritten}
use Rattle.turn_log.proofs.LockLists.{as_it_is}

-- ---- all at once

pub all_mapped : {X Y : Type 0} (P : Y → Type 0) (f : X → Y) (slice xs : List X) → slice ≡ xs → All P (map f xs)
    → All (λ x. P (f x)) slice
all_mapped P f slice xs is all = subst (All (λ x. P (f x))) (sym is) (unmap xs all) where
  unmap : (l : List _) → All P (map f l) → All (λ x. P (f x)) l
  unmap [] none = All-nil (λ x. P (f x))
  unmap (x ∷ l) each =
      All-cons (λ x. P (f x)) x l (All-head P (f x) (map f l) each) (unmap l (All-tail P (f x) (map f l) each))

-- what holds of all in two ways
pub all_both : {X Y : Type 0} (P : Y → Type 0) (Q : X → Type 0) (f : X → Y) (slice xs : List X) → slice ≡ xs
    → All P (map f xs) → All Q xs → All (λ x. P (f x) × Q x) slice
all_both P Q f slice xs is all more = subst (All (λ x. P (f x) × Q x)) (sym is) (both xs all more) where
  both : (l : List _) → All P (map f l) → All Q l → All (λ x. P (f x) × Q x) l
  both [] none no_more = All-nil (λ x. P (f x) × Q x)
  both (x ∷ l) each and_each =
      All-cons (λ x. P (f x) × Q x) x l (All-head P (f x) (map f l) each, All-head Q x l and_each)
      (both l (All-tail P (f x) (map f l) each) (All-tail Q x l and_each))

called_each : {X : Type 0} (told : X → CallerTold) (olds news : List X) → length news ≡ length olds
    → ((k : ℕ) (d : X) → k < length olds → HasCalled (told (slice_index_or olds k d)) (told (slice_index_or news k d)))
    → HaveCalled (map told olds) (map told news)
called_each told [] [] same each = tt
called_each told [] (y ∷ news) same each = absurd (omega (arith, same))
called_each told (x ∷ olds) [] same each = absurd (omega (arith, same))
called_each told (x ∷ olds) (y ∷ news) same each = (
  each 0 x (omega arith),
  called_each told olds news (omega (arith, same)) (λ k d less. each (suc k) d (omega (arith, less))),
)

pub slice_called : {X : Type 0} (told : X → CallerTold) (olds slice news : List X) (len : ℕ) → slice ≡ olds
    → len ≡ length olds → length news ≡ length slice
    → ((k : ℕ) (d : X) → k < length slice → HasCalled (told (slice_index_or slice k d)) (told (slice_index_or news k d)))
    → HaveCalled (map told olds) (map told (take len (news ++ drop (length news) olds)))
slice_called told olds slice news len is long same each =
    subst (λ l. HaveCalled (map told olds) (map told l)) (sym (as_it_is olds news len long (same ∙ ap length is)))
    (subst (λ l. HaveCalled (map told l) (map told news)) is (called_each told slice news same each))

wrote_each : {X : Type 0} (wrote : X → X → Type 0) (olds news : List X) → length news ≡ length olds
    → ((k : ℕ) (d : X) → k < length olds → wrote (slice_index_or olds k d) (slice_index_or news k d))
    → (k : ℕ) (old new : X) → get_elem? olds k ≡ some old → get_elem? news k ≡ some new → wrote old new
wrote_each wrote [] news same each k old new was now = absurd (some-ne-none old (sym was))
wrote_each wrote (x ∷ olds) [] same each k old new was now = absurd (some-ne-none new (sym now))
wrote_each wrote (x ∷ olds) (y ∷ news) same each zero old new was now =
    subst (λ z. wrote z new) (some-injective x old was)
    (subst (λ z. wrote x z) (some-injective y new now) (each 0 x (omega arith)))
wrote_each wrote (x ∷ olds) (y ∷ news) same each (suc k) old new was now =
    wrote_each wrote olds news (omega (arith, same)) (λ k d less. each (suc k) d (omega (arith, less))) k old new was now

pub slice_wrote : {X : Type 0} (wrote : X → X → Type 0) (olds slice news : List X) (len : ℕ) → slice ≡ olds
    → len ≡ length olds → length news ≡ length slice
    → ((k : ℕ) (d : X) → k < length slice → wrote (slice_index_or slice k d) (slice_index_or news k d))
    → (k : ℕ) (old new : X) → get_elem? olds k ≡ some old
    → get_elem? (take len (news ++ drop (length news) olds)) k ≡ some new → wrote old new
slice_wrote wrote olds slice news len is long same each k old new was now =
    wrote_each wrote slice news same each k old new (ap (λ l. get_elem? l k) is ∙ was)
    (sym (ap (λ l. get_elem? l k) (as_it_is olds news len long (same ∙ ap length is))) ∙ now)

-- ---- they sit down

callers-snoc : (n : ℕ) (callers : List CallerTold) (caller : CallerTold) (lock : LockTold)
    → AreNewCallers n callers lock → IsCaller (n + length callers) caller lock → lines_put caller ≡ []
    → AreNewCallers n (callers ++ caller ∷ []) lock
callers-snoc n [] caller lock all one none =
    ((subst (λ (k : ℕ). IsCaller k caller lock) (let e : n + 0 ≡ n = omega arith in e) one, none), tt)
callers-snoc n (c ∷ callers) caller lock all one none = (
  all.0,
  callers-snoc (suc n) callers caller lock all.1
      (subst (λ (k : ℕ). IsCaller k caller lock) (moved n (length callers)) one) none,
) where
  moved : (a b : ℕ) → a + suc b ≡ suc a + b
  moved a b = omega arith

-- one more sat down behind the others, with the last work
pub seated_more : {X W : Type 0} (told : X → CallerTold) (work : X → W) (works front : List W) (last : W)
    (old mid new more : List X) (caller : X) (number : ℕ) (lock : LockTold) → works ≡ front ++ last ∷ []
    → work caller ≡ last → mid ≡ old ++ more → AreNewCallers 0 (map told more) lock → front ≡ map work more
    → new ≡ mid ++ caller ∷ [] → length mid ≡ length old + number → IsCaller number (told caller) lock
    → lines_put (told caller) ≡ []
    → (x : List X) × (new ≡ old ++ x) × AreNewCallers 0 (map told x) lock × (works ≡ map work x)
seated_more told work works front last old mid new more caller number lock is same before so_far with_works pushed long one none =
    let count : number ≡ 0 + length (map told more) =
    omega (arith, long, ap length before, length-append old more, length-map more told) in (
      more ++ caller ∷ [],
      pushed ∙ ap (λ l. l ++ caller ∷ []) before ∙ append_assoc old more (caller ∷ []),
      subst (λ l. AreNewCallers 0 l lock) (sym (map-append told more (caller ∷ [])))
          (callers-snoc 0 (map told more) (told caller) lock so_far
          (subst (λ (k : ℕ). IsCaller k (told caller) lock) count one) none),
      is ∙ ap (λ l. l ++ last ∷ []) with_works ∙ ap (λ w. map work more ++ w ∷ []) (sym same)
          ∙ sym (map-append work more (caller ∷ [])),
    )

-- nobody is left to sit down
pub none_left : {W X : Type 0} (works : List W) (passes : List X) → length works ≡ length passes
    → (0 < length passes → false ≡ true) → works ≡ []
none_left [] passes same none = refl
none_left (work ∷ works) passes same none = let never : false ≡ true = none (omega (arith, same)) in absurd cc

-- all, where nobody sat down before
pub all_seated : {X : Type 0} (told : X → CallerTold) (none all more : List X) (lock : LockTold) → none ≡ []
    → all ≡ none ++ more → AreNewCallers 0 (map told more) lock → AreNewCallers 0 (map told all) lock
all_seated told none all more lock empty is seated =
    subst (λ l. AreNewCallers 0 (map told l) lock) (sym (is ∙ ap (λ l. l ++ more) empty)) seated

-- with their works
pub all_works : {X W : Type 0} (work : X → W) (works : List W) (none all more : List X) → none ≡ [] → all ≡ none ++ more
    → works ≡ map work more → works ≡ map work all
all_works work works none all more empty is works_are =
    works_are ∙ ap (map work) (sym (is ∙ ap (λ l. l ++ more) empty))

-- ---- they do their work

pub may_call : (n : ℕ) (callers : List CallerTold) (lock : LockTold) → AreNewCallers n callers lock
    → All MayCall callers
may_call n [] lock all = All-nil MayCall
may_call n (caller ∷ callers) lock all =
    All-cons MayCall caller callers (speaks n caller lock all.0.0, all.0.1) (may_call (suc n) callers lock all.1) where
      speaks : (k : ℕ) (c : CallerTold) (l : LockTold) → IsCaller k c l → IsTrue (c.place.speaks c.number)
      speaks k c l is =
          let at : c.place.speaks c.number ≡ true = is.at.speaks c.number ∙ eq-eqb c.number k is.numbered in cc

still_caller : (n : ℕ) (old new : CallerTold) (lock : LockTold) → IsCaller n old lock → HasCalled old new
    → IsCaller n new lock
still_caller n old new lock is called = record {
  numbered = called.number ∙ is.numbered;
  at = record {
    speaks = λ k. ap (λ f. f k) called.same.speaks ∙ is.at.speaks k;
    home = called.same.home ∙ is.at.home;
    start = called.same.start ∙ is.at.start;
  };
}

pub still_callers : (n : ℕ) (olds news : List CallerTold) (lock : LockTold) → AreNewCallers n olds lock
    → HaveCalled olds news → AreCallers n news lock
still_callers n [] [] lock all called = tt
still_callers n [] (new ∷ news) lock all called = absurd called
still_callers n (old ∷ olds) [] lock all called = absurd called
still_callers n (old ∷ olds) (new ∷ news) lock all called =
    (still_caller n old new lock all.0.0 called.0, still_callers (suc n) olds news lock all.1 called.1)

-- ---- they leave

callers-last : (n : ℕ) (callers : List CallerTold) (caller : CallerTold) (lock : LockTold)
    → AreCallers n (callers ++ caller ∷ []) lock → AreCallers n callers lock × IsCaller (n + length callers) caller lock
callers-last n [] caller lock all =
    (tt, subst (λ (k : ℕ). IsCaller k caller lock) (let e : n ≡ n + 0 = omega arith in e) all.0)
callers-last n (c ∷ callers) caller lock all =
    let later = callers-last (suc n) callers caller lock all.1 in
    ((all.0, later.0), subst (λ (k : ℕ). IsCaller k caller lock) (moved n (length callers)) later.1) where
      moved : (a b : ℕ) → suc a + b ≡ a + suc b
      moved a b = omega arith

-- the last caller and those before it
pub callers_split : {X : Type 0} (told : X → CallerTold) (all front : List X) (last : X) (lock : LockTold)
    → all ≡ front ++ last ∷ [] → AreCallers 0 (map told all) lock
    → AreCallers 0 (map told front) lock × IsAt (length (rows_of (map told front))) (told last).place lock
callers_split told all front last lock is callers =
    let split = callers-last 0 (map told front) (told last) lock
    (subst (λ l. AreCallers 0 l lock) (ap (map told) is ∙ map-append told front (last ∷ [])) callers) in
    let long : 0 + length (map told front) ≡ length (rows_of (map told front)) =
    omega (arith, length-map (map told front) (λ (c : CallerTold). c.place.seen)) in
    (split.0, subst (λ (k : ℕ). IsAt k (told last).place lock) long split.1.at)

pub rows-last : {X : Type 0} (told : X → CallerTold) (all front : List X) (last : X) → all ≡ front ++ last ∷ []
    → rows_of (map told all) ≡ rows_of (map told front) ++ (told last).place.seen ∷ []
rows-last told all front last is =
    ap rows_of (ap (map told) is ∙ map-append told front (last ∷ []))
    ∙ map-append (λ (c : CallerTold). c.place.seen) (map told front) (told last ∷ [])

-- the last work came to the list behind the others
pub works_more : {X W : Type 0} (work : X → W) (all front : List X) (last : X) (old mid new : List W)
    → all ≡ front ++ last ∷ [] → mid ≡ old ++ map work front → new ≡ mid ++ work last ∷ []
    → new ≡ old ++ map work all
works_more work all front last old mid new is before pushed =
    pushed ∙ ap (λ l. l ++ work last ∷ []) before ∙ append_assoc old (map work front) (work last ∷ [])
    ∙ ap (λ l. old ++ l) (sym (ap (map work) is ∙ map-append work front (last ∷ [])))

-- ---- and all is told

mapped_at : {X Y : Type 0} (f : X → Y) (xs : List X) (k : ℕ) (x : X) → get_elem? xs k ≡ some x
    → get_elem? (map f xs) k ≡ some (f x)
mapped_at f [] k x at = absurd (some-ne-none x (sym at))
mapped_at f (y ∷ xs) zero x at = ap (λ z. some (f z)) (some-injective y x at)
mapped_at f (y ∷ xs) (suc k) x at = mapped_at f xs k x at

unmapped_at : {X Y : Type 0} (f : X → Y) (xs : List X) (k : ℕ) (y : Y) → get_elem? (map f xs) k ≡ some y
    → (x : X) × (get_elem? xs k ≡ some x) × (f x ≡ y)
unmapped_at f [] k y at = absurd (some-ne-none y (sym at))
unmapped_at f (x ∷ xs) zero y at = (x, refl, some-injective (f x) y at)
unmapped_at f (x ∷ xs) (suc k) y at = unmapped_at f xs k y at

caller_at : (n : ℕ) (callers : List CallerTold) (lock : LockTold) (k : ℕ) → AreCallers n callers lock
    → k < length callers
    → (caller : CallerTold) × (get_elem? callers k ≡ some caller)
    × (get_elem? (rows_of callers) k ≡ some caller.place.seen) × (caller.number ≡ n + k)
caller_at n [] lock k all below = absurd (omega (arith, below))
caller_at n (c ∷ callers) lock zero all below = (c, refl, refl, omega (arith, all.0.numbered))
caller_at n (c ∷ callers) lock (suc k) all below =
    let rest = caller_at (suc n) callers lock k all.1 (omega (arith, below)) in
    (rest.0, rest.1, rest.2, omega (arith, rest.3))

-- what stands at a place stands before the end
place_below : {X : Type 0} (xs : List X) (k : ℕ) (x : X) → get_elem? xs k ≡ some x → k < length xs
place_below [] k x at = absurd (some-ne-none x (sym at))
place_below (y ∷ xs) zero x at = omega arith
place_below (y ∷ xs) (suc k) x at = let rest = place_below xs k x at in omega (arith, rest)

module _ {V A R W : Type 0} {g : Ghosts V Line A R OutputStart} where
  pub have_left : {X : Type 0} (told : X → CallerTold) (work : X → W) (wrote : Wrote W) (befores afters : List X)
      (lock : LockTold) (olds mid news : List W) (passes : List (Pass V Line A R OutputStart g))
      → AreCallers 0 (map told afters) lock → olds ≡ map work befores → mid ≡ []
      → news ≡ mid ++ map work afters → IsPile (rows_of (map told afters)) passes lock
      → ((k : ℕ) (old new : X) → get_elem? befores k ≡ some old → get_elem? afters k ≡ some new
      → wrote (work old) (work new) (lines_put (told new)))
      → length afters ≡ length befores → HaveLeft wrote lock olds news passes
  have_left told work wrote befores afters lock olds mid news passes here were none are pile each as_many =
      let now : news ≡ map work afters = are ∙ ap (λ l. l ++ map work afters) none in record {
        count = omega (
          arith,
          ap length now,
          ap length were,
          as_many,
          length-map afters work,
          length-map befores work,
        );
        callers = map told afters;
        as_many = omega (arith, ap length now, length-map afters work, length-map afters told);
        here = here;
        pile = pile;
        each = λ k caller old new at was is.
            let c = unmapped_at told afters k caller at in
            let o = unmapped_at work befores k old (sym (ap (λ l. get_elem? l k) were) ∙ was) in
            let n = some-injective (work c.0) new
            (sym (mapped_at work afters k c.0 c.1) ∙ sym (ap (λ l. get_elem? l k) now) ∙ is) in
            subst (λ w. wrote w new (lines_put caller)) o.2
            (subst (λ w. wrote (work o.0) w (lines_put caller)) n
            (subst (λ (t : CallerTold). wrote (work o.0) (work c.0) (lines_put t)) c.2
            (each k o.0 c.0 o.1 c.1)));
      }

  -- the lock was closed with the passes of all
  pub have_written : (wrote : Wrote W) (lock : LockTold) (olds news : List W)
      (passes : List (Pass V Line A R OutputStart g)) (torn : Bool) (start : OutputStart) (taken : Option (List ℕ)) (faults : ℕ)
      → HaveLeft wrote lock olds news passes
      → ((rows : List (History Line)) → IsPile rows passes lock
      → (whole : History Line) × IsWhole rows whole × IsWritten torn start taken faults (text_in whole))
      → HaveWritten wrote start torn taken faults olds news
  have_written wrote lock olds news passes torn start taken faults left closed =
      let all = closed (rows_of left.callers) left.pile in record {
        count = left.count;
        whole = all.0;
        text = all.2;
        nobody_else = subst (λ (n : ℕ). All (λ (e : ℕ × Line). e.0 < n) all.0) long all.1.numbers;
        each = λ k old new was now.
            let c = found k new now in
            let same : lines_put c.0 ≡ own k all.0 =
            ap (λ (i : ℕ). own i c.0.place.seen) c.3 ∙ sym (all.1.owns k _ c.2) in
            subst (wrote old new) same (left.each k c.0 old new c.1 was now);
      } where
        found : (k : ℕ) (work : W) → get_elem? news k ≡ some work
            → (caller : CallerTold) × (get_elem? left.callers k ≡ some caller)
            × (get_elem? (rows_of left.callers) k ≡ some caller.place.seen) × (caller.number ≡ k)
        found k work at =
            let c = caller_at 0 left.callers lock k left.here
            (omega (arith, place_below news k work at, left.as_many)) in
            (c.0, c.1, c.2, omega (arith, c.3))

        long : length (rows_of left.callers) ≡ length news
        long = omega (arith, left.as_many, length-map left.callers (λ (c : CallerTold). c.place.seen))

-- the same start by another name
pub from_start : {W : Type 0} (wrote : Wrote W) (start from : OutputStart) (torn : Bool) (taken : Option (List ℕ))
    (faults : ℕ) (olds news : List W) → start ≡ from → HaveWritten wrote start torn taken faults olds news
    → HaveWritten wrote from torn taken faults olds news
from_start wrote start from torn taken faults olds news same written =
    subst (λ (s : OutputStart). HaveWritten wrote s torn taken faults olds news) same written
