-- Passes that callers gave back, and what they say of a lock that was closed.
use Rattle.std.proofs.Common.{◌≡◌, ◌∙◌, ◌==◌, ◌+◌, ◌<◌, ℕ, zero, suc, List, [], ◌∷◌, ◌++◌, length, refl, sym, ap, subst, arith, append-nil}
use Rattle.std.specs.List.{All}
use mathlib.Core.Option.{some, some-injective, some-ne-none}
use lib.ListN.{get_elem?}
use Rattle.turn_log.specs.declared.object.Played.{Ghosts}
use Rattle.turn_log.specs.declared.lock.parts.Pass.{Pass}
use Rattle.turn_log.specs.History.{History, GoesOn, own}
use Rattle.turn_log.specs.Lock.{pass_number, pass_seen, pass_home, HasShape}
use Rattle.turn_log.proofs.HistoryLaws.{own-append}
use Rattle.caster_press.specs.declared.line.Line.{Line}
use Rattle.caster_press.specs.declared.press.OutputStart.{OutputStart}
use Rattle.caster_press.specs.Piles.{IsLeft, IsPileFrom, IsPile, IsWhole}
use Rattle.caster_press.specs.Places.{IsAt, LockTold, PlaceTold}
use Rattle.caster_press.proofs.PlaceLemmas.{same_number}

module _ {V A R : Type 0} {g : Ghosts V Line A R OutputStart} where
  pub pile-snoc : (n : ℕ) (rows : List (History Line)) (passes : List (Pass V Line A R OutputStart g)) (row : History Line)
      (pass : Pass V Line A R OutputStart g) (lock : LockTold) → IsPileFrom n rows passes lock
      → IsLeft (n + length rows) row pass lock → IsPileFrom n (rows ++ row ∷ []) (passes ++ pass ∷ []) lock
  pile-snoc n [] [] row pass lock pile left =
      (subst (λ (k : ℕ). IsLeft k row pass lock) (let e : n + 0 ≡ n = omega arith in e) left, tt)
  pile-snoc n [] (p ∷ passes) row pass lock pile left = absurd pile
  pile-snoc n (r ∷ rows) [] row pass lock pile left = absurd pile
  pile-snoc n (r ∷ rows) (p ∷ passes) row pass lock pile left = (
    pile.0,
    pile-snoc (suc n) rows passes row pass lock pile.1
        (subst (λ (k : ℕ). IsLeft k row pass lock) (moved n (length rows)) left),
  ) where
    moved : (a b : ℕ) → a + suc b ≡ suc a + b
    moved a b = omega arith

  -- the same rows by another name
  pub pile_is : (rows more : List (History Line)) (passes : List (Pass V Line A R OutputStart g)) (lock : LockTold) → more ≡ rows
      → IsPile rows passes lock → IsPile more passes lock
  pile_is rows more passes lock is pile = subst (λ (r : List (History Line)). IsPile r passes lock) (sym is) pile

  -- a place gave its pass back
  pub pile_more : (rows : List (History Line)) (old new : List (Pass V Line A R OutputStart g)) (place : PlaceTold)
      (pass : Pass V Line A R OutputStart g) (lock : LockTold) → new ≡ old ++ pass ∷ []
      → ((k : ℕ) → place.speaks k ≡ (k == pass_number pass)) → pass_seen pass ≡ place.seen
      → pass_home pass ≡ place.home → HasShape pass place.start
      → IsAt (length rows) place lock → IsPile rows old lock → IsPile (rows ++ place.seen ∷ []) new lock
  pile_more rows old new place pass lock is speaks saw home fits at pile =
      subst (λ (l : List (Pass V Line A R OutputStart g)). IsPile (rows ++ place.seen ∷ []) l lock) (sym is)
      (pile-snoc 0 rows old place.seen pass lock pile (record {
        numbered = same_number (pass_number pass) (length rows) (λ k. sym (speaks k) ∙ at.speaks k)
            ∙ from_zero (length rows);
        saw = saw;
        here = (home ∙ at.home, subst (HasShape pass) at.start fits);
      })) where
        from_zero : (k : ℕ) → k ≡ 0 + k
        from_zero k = omega arith

  pile_length : (n : ℕ) (rows : List (History Line)) (passes : List (Pass V Line A R OutputStart g)) (lock : LockTold)
      → IsPileFrom n rows passes lock → length rows ≡ length passes
  pile_length n [] [] lock pile = refl
  pile_length n [] (p ∷ passes) lock pile = absurd pile
  pile_length n (r ∷ rows) [] lock pile = absurd pile
  pile_length n (r ∷ rows) (p ∷ passes) lock pile = ap suc (pile_length (suc n) rows passes lock pile.1)

  -- what is at the same place of the other list
  left_of : (n : ℕ) (rows : List (History Line)) (passes : List (Pass V Line A R OutputStart g)) (lock : LockTold) (i : ℕ)
      (pass : Pass V Line A R OutputStart g) → IsPileFrom n rows passes lock → get_elem? passes i ≡ some pass
      → (row : History Line) × IsLeft (n + i) row pass lock
  left_of n [] [] lock i pass pile at = absurd (some-ne-none pass (sym at))
  left_of n [] (p ∷ passes) lock i pass pile at = absurd pile
  left_of n (r ∷ rows) [] lock i pass pile at = absurd pile
  left_of n (r ∷ rows) (p ∷ passes) lock zero pass pile at = (
    r,
    subst (λ (x : Pass V Line A R OutputStart g). IsLeft (n + 0) r x lock) (some-injective p pass at)
        (subst (λ (k : ℕ). IsLeft k r p lock) (let e : n ≡ n + 0 = omega arith in e) pile.0),
  )
  left_of n (r ∷ rows) (p ∷ passes) lock (suc i) pass pile at =
      let rest = left_of (suc n) rows passes lock i pass pile.1 at in
      (rest.0, subst (λ (k : ℕ). IsLeft k rest.0 pass lock) (moved n i) rest.1) where
        moved : (a b : ℕ) → suc a + b ≡ a + suc b
        moved a b = omega arith

  pass_of : (n : ℕ) (rows : List (History Line)) (passes : List (Pass V Line A R OutputStart g)) (lock : LockTold) (i : ℕ)
      (row : History Line) → IsPileFrom n rows passes lock → get_elem? rows i ≡ some row
      → (pass : Pass V Line A R OutputStart g) × (get_elem? passes i ≡ some pass) × IsLeft (n + i) row pass lock
  pass_of n [] [] lock i row pile at = absurd (some-ne-none row (sym at))
  pass_of n [] (p ∷ passes) lock i row pile at = absurd pile
  pass_of n (r ∷ rows) [] lock i row pile at = absurd pile
  pass_of n (r ∷ rows) (p ∷ passes) lock zero row pile at = (
    p,
    refl,
    subst (λ (x : History Line). IsLeft (n + 0) x p lock) (some-injective r row at)
        (subst (λ (k : ℕ). IsLeft k r p lock) (let e : n ≡ n + 0 = omega arith in e) pile.0),
  )
  pass_of n (r ∷ rows) (p ∷ passes) lock (suc i) row pile at =
      let rest = pass_of (suc n) rows passes lock i row pile.1 at in
      (rest.0, rest.1, subst (λ (k : ℕ). IsLeft k row rest.0 lock) (moved n i) rest.2) where
        moved : (a b : ℕ) → suc a + b ≡ a + suc b
        moved a b = omega arith

  -- each pass of a pile is one of its lock
  pub pile_here : (rows : List (History Line)) (passes : List (Pass V Line A R OutputStart g)) (lock : LockTold) (i : ℕ)
      (pass : Pass V Line A R OutputStart g) → IsPile rows passes lock → get_elem? passes i ≡ some pass
      → (pass_home pass ≡ lock.home) × HasShape pass lock.start
  pile_here rows passes lock i pass pile at = (left_of 0 rows passes lock i pass pile at).1.here

  -- the history that the lock of these passes was closed with
  pub whole_of : (rows : List (History Line)) (passes : List (Pass V Line A R OutputStart g)) (lock : LockTold) (most : ℕ)
      (whole : History Line) → IsPile rows passes lock → length passes ≡ most
      → All (λ (e : ℕ × Line). e.0 < most) whole
      → ((i : ℕ) (pass : Pass V Line A R OutputStart g) → get_elem? passes i ≡ some pass
      → GoesOn (pass_number pass) (pass_seen pass) whole)
      → IsWhole rows whole
  whole_of rows passes lock most whole pile all numbers each = record {
    numbers = subst (λ (n : ℕ). All (λ (e : ℕ × Line). e.0 < n) whole)
        (sym (pile_length 0 rows passes lock pile ∙ all)) numbers;
    owns = λ k row at.
        let left = pass_of 0 rows passes lock k row pile at in
        owned k (pass_number left.0) (pass_seen left.0) row (left.2.numbered ∙ from_zero k) left.2.saw
        (each k left.0 left.1);
  } where
    from_zero : (k : ℕ) → 0 + k ≡ k
    from_zero k = omega arith

    owned : (k n : ℕ) (seen saw : History Line) → n ≡ k → seen ≡ saw → GoesOn n seen whole → own k whole ≡ own k saw
    owned k n seen saw same is goes =
        ap (own k) goes.1 ∙ own-append k seen goes.0
        ∙ ap (λ l. own k seen ++ l) (subst (λ m. own m goes.0 ≡ []) same goes.2) ∙ append-nil (own k seen)
        ∙ ap (own k) is
