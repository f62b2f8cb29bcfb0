-- Passes that callers gave back, and what they say of a lock that was closed.
use Rattle.std.proofs.Common.{◌≡◌, ◌∙◌, ◌+◌, ◌<◌, ◌≤◌, ℕ, zero, suc, Bool, IsTrue, List, [], ◌∷◌, ◌++◌, length, map, get_or, refl, sym, ap, subst, arith, All, Vec, Global, vec_len, vec_capacity}
use Rattle.std.proofs.lemmas.Bool.{eqb-true}
use Rattle.std.proofs.lemmas.List.Elements.{All-nil, All-cons, All-append}
use mathlib.Core.Option.{some, some-injective, some-ne-none}
use lib.ListN.{get_elem?}
use base.Stored.{Gv}
use Rattle.turn_log.specs.declared.object.Played.{Ghosts}
use Rattle.turn_log.specs.declared.lock.parts.Turn.{Turn}
use Rattle.turn_log.specs.declared.lock.parts.Pass.{Pass}
use Rattle.turn_log.specs.History.{History, GoesOn}
use Rattle.turn_log.specs.Lock.{turn_passes, turn_value, turn_home, pass_number, pass_seen, pass_worn, HasShape, IsPassOf}
use Rattle.turn_log.proofs.LockLists.{at_or}
use Rattle.session_calls.specs.Rings.{AllLater}
use Rattle.caster_places.specs.Piles.{AreMatched, AreThree, AreWithin, IsGivenBack, IsLeft, IsPileFrom, IsPile, AreAllOf, HasAllOf, IsWhole, HasRoom}
use Rattle.caster_places.proofs.ListLemmas.{at_back, at_front, matched_behind, matched_next, three_at, map_at, same_at, all_at, all_front, all_last}

-- the last pile took one more, and those before it had room left
pub room_more : {X : Type 0} (n : ℕ) (olds rest news left : List (Vec X Global)) (old new : Vec X Global)
    → olds ≡ rest ++ old ∷ [] → news ≡ left ++ new ∷ [] → vec_len new ≡ vec_len old + 1
    → vec_capacity new ≡ vec_capacity old → (All (HasRoom (n + 1)) rest → All (HasRoom n) left)
    → All (HasRoom (n + 1)) olds → All (HasRoom n) news
room_more n olds rest news left old new is more long wide before all =
    let had : All (HasRoom (n + 1)) (rest ++ old ∷ []) = subst (All (HasRoom (n + 1))) is all in
    let last : HasRoom (n + 1) old = all_last (HasRoom (n + 1)) rest old had in
    subst (All (HasRoom n)) (sym more)
    (All-append (HasRoom n) left (new ∷ []) (before (all_front (HasRoom (n + 1)) rest old had))
    (All-cons (HasRoom n) new [] (omega (arith, last, long, wide)) (All-nil (HasRoom n))))

-- each of these piles is empty
pub none_at : {X : Type 0} (piles : List (Vec X Global)) (i : ℕ) (pile : Vec X Global)
    → All (λ (p : Vec X Global). p.items ≡ []) piles → get_elem? piles i ≡ some pile → pile.items ≡ []
none_at {X} piles i pile all at = all_at (λ (p : Vec X Global). p.items ≡ []) piles i pile all at

module _ {V C A R S : Type 0} {g : Ghosts V C A R S} where
  pub no_pile : (passes : List (Pass V C A R S g)) (lock : Turn V C A R S) → passes ≡ [] → IsPile [] passes lock
  no_pile passes lock none = subst (λ (l : List (Pass V C A R S g)). IsPile [] l lock) (sym none) tt

  -- ---- one pass more

  pile-snoc : (n : ℕ) (seens : List (History C)) (passes : List (Pass V C A R S g)) (seen : History C)
      (pass : Pass V C A R S g) (lock : Turn V C A R S) → IsPileFrom n seens passes lock
      → IsLeft (n + length seens) seen pass lock → IsPileFrom n (seens ++ seen ∷ []) (passes ++ pass ∷ []) lock
  pile-snoc n [] [] seen pass lock pile left =
      (subst (λ (k : ℕ). IsLeft k seen pass lock) (let e : n + 0 ≡ n = omega arith in e) left, tt)
  pile-snoc n [] (p ∷ passes) seen pass lock pile left = absurd pile
  pile-snoc n (s ∷ seens) [] seen pass lock pile left = absurd pile
  pile-snoc n (s ∷ seens) (p ∷ passes) seen pass lock pile left = (
    pile.0,
    pile-snoc (suc n) seens passes seen pass lock pile.1
        (subst (λ (k : ℕ). IsLeft k seen pass lock) (moved n (length seens)) left),
  ) where
    moved : (a b : ℕ) → a + suc b ≡ suc a + b
    moved a b = omega arith

  -- one place gave its pass back to its pile
  pub pile_more : {T : Type 0} (speaks : T → ℕ → Bool) (seen : T → History C) (home : T → Gv) (shape : T → S)
      (worn : T → ℕ)
      (place : T) (old new : List (Pass V C A R S g)) (lock : Turn V C A R S) (number : ℕ) (seens : List (History C))
      → IsGivenBack speaks seen home shape worn place old new → IsTrue (speaks place number)
      → home place ≡ turn_home lock → shape place ≡ g.shape (turn_value lock) → number ≡ length seens
      → IsPile seens old lock → IsPile (seens ++ seen place ∷ []) new lock
  pile_more speaks seen home shape worn place old new lock number seens back says at_home fits long pile =
      subst (λ (l : List (Pass V C A R S g)). IsPile (seens ++ seen place ∷ []) l lock) (sym back.more)
      (pile-snoc 0 seens old (seen place) back.pass lock pile (record {
        numbered = sym (eqb-true number (pass_number back.pass) (sym (back.number number) ∙ says)) ∙ long
            ∙ from_zero (length seens);
        saw = back.saw;
        here = (back.home_is ∙ at_home, subst (HasShape back.pass) fits back.shape_is);
      })) where
        from_zero : (k : ℕ) → k ≡ 0 + k
        from_zero k = omega arith

  -- each of these places gave its pass back to the pile of its lock
  pub piles_more : {T : Type 0} (speaks : T → ℕ → Bool) (seen : T → History C) (home : T → Gv) (shape : T → S)
      (worn : T → ℕ)
      (places : List T) (olds news : List (Vec (Pass V C A R S g) Global)) (locks : List (Turn V C A R S)) (number : ℕ)
      (seens : ℕ → List (History C))
      → AreThree (λ (place : T) (old new : Vec (Pass V C A R S g) Global).
      IsGivenBack speaks seen home shape worn place old.items new.items) places olds news
      → All (λ (says : ℕ → Bool). IsTrue (says number)) (map speaks places)
      → map home places ≡ map turn_home locks
      → map shape places ≡ map (λ (lock : Turn V C A R S). g.shape (turn_value lock)) locks
      → ((mount : ℕ) → number ≡ length (seens mount))
      → ((mount : ℕ) (pile : Vec (Pass V C A R S g) Global) (lock : Turn V C A R S) → get_elem? olds mount ≡ some pile
      → get_elem? locks mount ≡ some lock → IsPile (seens mount) pile.items lock)
      → (mount : ℕ) (pile : Vec (Pass V C A R S g) Global) (lock : Turn V C A R S) → get_elem? news mount ≡ some pile
      → get_elem? locks mount ≡ some lock
      → IsPile (seens mount ++ get_or (map seen places) mount [] ∷ []) pile.items lock
  piles_more {T} speaks seen home shape worn places olds news locks number seens back says homes shapes long piles mount
      pile lock at_pile at_lock =
      let at = three_at (λ (place : T) (old new : Vec (Pass V C A R S g) Global).
      IsGivenBack speaks seen home shape worn place old.items new.items) places olds news mount pile back at_pile in
      subst (λ (h : History C). IsPile (seens mount ++ h ∷ []) pile.items lock)
      (sym (at_or (map seen places) mount (seen at.first) [] (map_at seen places mount at.first at.at_first)))
      (pile_more speaks seen home shape worn at.first at.second.items pile.items lock number (seens mount) at.fits
      (all_at (λ (says : ℕ → Bool). IsTrue (says number)) (map speaks places) mount (speaks at.first) says
      (map_at speaks places mount at.first at.at_first))
      (same_at home turn_home places locks mount at.first lock homes at.at_first at_lock)
      (same_at shape (λ (lock : Turn V C A R S). g.shape (turn_value lock)) places locks mount at.first lock shapes
      at.at_first at_lock)
      (long mount) (piles mount at.second lock at.at_second at_lock))

  -- ---- a pile, pass by pass

  pile-length : (n : ℕ) (seens : List (History C)) (passes : List (Pass V C A R S g)) (lock : Turn V C A R S)
      → IsPileFrom n seens passes lock → length passes ≡ length seens
  pile-length n [] [] lock pile = refl
  pile-length n [] (p ∷ passes) lock pile = absurd pile
  pile-length n (s ∷ seens) [] lock pile = absurd pile
  pile-length n (s ∷ seens) (p ∷ passes) lock pile = ap suc (pile-length (suc n) seens passes lock pile.1)

  pub pile_length : (seens : List (History C)) (passes : List (Pass V C A R S g)) (lock : Turn V C A R S)
      → IsPile seens passes lock → length passes ≡ length seens
  pile_length seens passes lock pile = pile-length 0 seens passes lock pile

  pile_here : (n : ℕ) (seens : List (History C)) (passes : List (Pass V C A R S g)) (lock : Turn V C A R S)
      → IsPileFrom n seens passes lock → (i : ℕ) (pass : Pass V C A R S g) → get_elem? passes i ≡ some pass
      → IsPassOf pass lock
  pile_here n [] [] lock pile i pass at = absurd (some-ne-none pass (sym at))
  pile_here n [] (p ∷ passes) lock pile i pass at = absurd pile
  pile_here n (s ∷ seens) [] lock pile i pass at = absurd pile
  pile_here n (s ∷ seens) (p ∷ passes) lock pile zero pass at =
      subst (λ (q : Pass V C A R S g). IsPassOf q lock) (some-injective p pass at) pile.0.here
  pile_here n (s ∷ seens) (p ∷ passes) lock pile (suc i) pass at =
      pile_here (suc n) seens passes lock pile.1 i pass at

  -- the pass of the caller that has seen this
  pile_at : (n : ℕ) (seens : List (History C)) (passes : List (Pass V C A R S g)) (lock : Turn V C A R S)
      → IsPileFrom n seens passes lock → (i : ℕ) (seen : History C) → get_elem? seens i ≡ some seen
      → (pass : Pass V C A R S g) × (get_elem? passes i ≡ some pass) × IsLeft (n + i) seen pass lock
  pile_at n [] [] lock pile i seen at = absurd (some-ne-none seen (sym at))
  pile_at n [] (p ∷ passes) lock pile i seen at = absurd pile
  pile_at n (s ∷ seens) [] lock pile i seen at = absurd pile
  pile_at n (s ∷ seens) (p ∷ passes) lock pile zero seen at = (
    p,
    refl,
    subst (λ (k : ℕ). IsLeft k seen p lock) (let e : n ≡ n + 0 = omega arith in e)
        (subst (λ (h : History C). IsLeft n h p lock) (some-injective s seen at) pile.0),
  )
  pile_at n (s ∷ seens) (p ∷ passes) lock pile (suc i) seen at =
      let rest = pile_at (suc n) seens passes lock pile.1 i seen at in (
        rest.0,
        rest.1,
        subst (λ (k : ℕ). IsLeft k seen rest.0 lock) (moved n i) rest.2,
      )
    where
      moved : (a b : ℕ) → suc a + b ≡ a + suc b
      moved a b = omega arith

  -- ---- closing

  -- a pile of as many passes as the lock was opened with has all of them
  pub all_of_pile : (seens : List (History C)) (passes : List (Pass V C A R S g)) (lock : Turn V C A R S)
      → IsPile seens passes lock → length passes ≡ turn_passes lock → AreAllOf passes lock
  all_of_pile seens passes lock pile count =
      record { here = pile_here 0 seens passes lock pile; all = count }

  -- and what the lock was closed with is the whole of what its callers have seen
  pub whole_of_pile : (seens : List (History C)) (passes : List (Pass V C A R S g)) (lock : Turn V C A R S)
      (whole : History C) → IsPile seens passes lock → HasAllOf passes whole → IsWhole seens whole
  whole_of_pile seens passes lock whole pile has = record {
    numbers = subst (λ (n : ℕ). All (λ (entry : ℕ × C). entry.0 < n) whole)
        (pile-length 0 seens passes lock pile) has.numbers;
    each = λ k seen at.
        let one = pile_at 0 seens passes lock pile k seen at in
        subst (λ (n : ℕ). GoesOn n seen whole) (one.2.numbered ∙ from_zero k)
        (subst (λ (h : History C). GoesOn (pass_number one.0) h whole) one.2.saw (has.each k one.0 one.1));
  } where
    from_zero : (k : ℕ) → 0 + k ≡ k
    from_zero k = omega arith

-- ---- several locks

-- numbers that are at most those at their places
pub later_matched : (xs bounds : List ℕ) (x bound : ℕ) → AreMatched (λ (n most : ℕ). n ≤ most) xs bounds → x ≤ bound
    → AllLater (xs ++ x ∷ []) (bounds ++ bound ∷ [])
later_matched [] [] x bound all one zero = one
later_matched [] [] x bound all one (suc k) = omega arith
later_matched [] (most ∷ bounds) x bound all one k = absurd all
later_matched (n ∷ xs) [] x bound all one k = absurd all
later_matched (n ∷ xs) (most ∷ bounds) x bound all one zero = all.0
later_matched (n ∷ xs) (most ∷ bounds) x bound all one (suc k) = later_matched xs bounds x bound all.1 one k

module _ {V C A R S : Type 0} {g : Ghosts V C A R S} where
  -- each of these piles has all passes of the lock at its place
  abbrev pub AllClosing : List (Vec (Pass V C A R S g) Global) → List (Turn V C A R S) → Type 0
  AllClosing piles locks = AreMatched (λ (pile : Vec (Pass V C A R S g) Global) (lock : Turn V C A R S).
      AreAllOf pile.items lock) piles locks

  -- the locks of these piles were closed with these histories
  abbrev pub AllClosed : List (Vec (Pass V C A R S g) Global) → List (History C) → Type 0
  AllClosed piles wholes = AreMatched (λ (pile : Vec (Pass V C A R S g) Global) (whole : History C).
      HasAllOf pile.items whole) piles wholes

  pub closing_next : (piles rest : List (Vec (Pass V C A R S g) Global)) (pile : Vec (Pass V C A R S g) Global)
      (locks later : List (Turn V C A R S)) (lock : Turn V C A R S) → piles ≡ pile ∷ rest → locks ≡ lock ∷ later
      → AllClosing piles locks → AreAllOf pile.items lock × AllClosing rest later
  closing_next piles rest pile locks later lock is is_too all =
      matched_next (λ (p : Vec (Pass V C A R S g) Global) (l : Turn V C A R S). AreAllOf p.items l) piles rest locks later
      pile lock is is_too all

  pub closed_none : (piles : List (Vec (Pass V C A R S g) Global)) (locks : List (Turn V C A R S)) → length locks ≡ 0
      → AllClosing piles locks → AllClosed piles []
  closed_none [] [] none all = tt
  closed_none [] (lock ∷ locks) none all = absurd all
  closed_none (pile ∷ piles) [] none all = absurd all
  closed_none (pile ∷ piles) (lock ∷ locks) none all = absurd (omega (arith, none))

  pub closed_behind : (all piles rest : List (Vec (Pass V C A R S g) Global)) (pile : Vec (Pass V C A R S g) Global)
      (wholes : List (History C)) (whole : History C) → piles ≡ pile ∷ rest → HasAllOf pile.items whole
      → ((more : List (History C)) → AllClosed piles more → AllClosed all (wholes ++ more))
      → (more : List (History C)) → AllClosed rest more → AllClosed all ((wholes ++ whole ∷ []) ++ more)
  closed_behind all piles rest pile wholes whole is has behind =
      matched_behind (λ (p : Vec (Pass V C A R S g) Global) (w : History C). HasAllOf p.items w) all piles rest wholes
      pile whole is has behind

  -- what a lock was closed with has all of these passes, if they were as many as the lock has
  pub has_all : (passes : List (Pass V C A R S g)) (lock : Turn V C A R S) (whole : History C)
      → AreAllOf passes lock → All (λ (entry : ℕ × C). entry.0 < turn_passes lock) whole
      → ((i : ℕ) (pass : Pass V C A R S g) → get_elem? passes i ≡ some pass
      → GoesOn (pass_number pass) (pass_seen pass) whole) → AreWithin (length whole) passes → HasAllOf passes whole
  has_all passes lock whole are numbers each worn = record {
    numbers = subst (λ (n : ℕ). All (λ (entry : ℕ × C). entry.0 < n) whole) (sym are.all) numbers;
    each = each;
    worn = worn;
  }

  -- ---- how worn their locks were

  within_front : (most : ℕ) (old new : List (Pass V C A R S g)) (pass : Pass V C A R S g) → new ≡ old ++ pass ∷ []
      → AreWithin most new → AreWithin most old × (pass_worn pass ≤ most)
  within_front most old new pass is all = (
    (λ i p at. all i p (ap (λ l. get_elem? l i) is ∙ at_front old pass p i at)),
    all (length old) pass (ap (λ l. get_elem? l (length old)) is ∙ at_back old pass),
  )

  -- one place gave its pass back
  pub one_within : {T : Type 0} (speaks : T → ℕ → Bool) (seen : T → History C) (home : T → Gv) (shape : T → S)
      (worn : T → ℕ) (place : T) (old new : List (Pass V C A R S g)) (most : ℕ)
      → IsGivenBack speaks seen home shape worn place old new → AreWithin most new
      → AreWithin most old × (worn place ≤ most)
  one_within speaks seen home shape worn place old new most back all =
      let front = within_front most old new back.pass back.more all in
      (front.0, omega (arith, front.1, back.wore))

  -- each of these gave its pass back to the pile at its place
  pub each_within : {T : Type 0} (speaks : T → ℕ → Bool) (seen : T → History C) (home : T → Gv) (shape : T → S)
      (worn : T → ℕ) (places : List T) (olds news : List (Vec (Pass V C A R S g) Global)) (bounds : List ℕ)
      → AreThree (λ (place : T) (old new : Vec (Pass V C A R S g) Global).
      IsGivenBack speaks seen home shape worn place old.items new.items) places olds news
      → AreMatched (λ (pile : Vec (Pass V C A R S g) Global) (most : ℕ). AreWithin most pile.items) news bounds
      → AreMatched (λ (pile : Vec (Pass V C A R S g) Global) (most : ℕ). AreWithin most pile.items) olds bounds
      × AreMatched (λ (n most : ℕ). n ≤ most) (map worn places) bounds
  each_within speaks seen home shape worn [] [] [] [] back all = (tt, tt)
  each_within speaks seen home shape worn [] [] [] (most ∷ bounds) back all = absurd all
  each_within speaks seen home shape worn [] [] (new ∷ news) bounds back all = absurd back
  each_within speaks seen home shape worn [] (old ∷ olds) news bounds back all = absurd back
  each_within speaks seen home shape worn (place ∷ places) [] news bounds back all = absurd back
  each_within speaks seen home shape worn (place ∷ places) (old ∷ olds) [] bounds back all = absurd back
  each_within speaks seen home shape worn (place ∷ places) (old ∷ olds) (new ∷ news) [] back all = absurd all
  each_within speaks seen home shape worn (place ∷ places) (old ∷ olds) (new ∷ news) (most ∷ bounds) back all =
      let one = one_within speaks seen home shape worn place old.items new.items most back.0 all.0 in
      let more = each_within speaks seen home shape worn places olds news bounds back.1 all.1 in
      ((one.0, more.0), (one.1, more.1))

  -- locks that were closed with these histories
  pub closed_within : (piles : List (Vec (Pass V C A R S g) Global)) (wholes : List (History C))
      → AllClosed piles wholes
      → AreMatched (λ (pile : Vec (Pass V C A R S g) Global) (most : ℕ). AreWithin most pile.items) piles
      (map length wholes)
  closed_within [] [] all = tt
  closed_within [] (whole ∷ wholes) all = absurd all
  closed_within (pile ∷ piles) [] all = absurd all
  closed_within (pile ∷ piles) (whole ∷ wholes) all = (all.0.worn, closed_within piles wholes all.1)
