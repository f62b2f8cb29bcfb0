-- The passes that callers gave back to a lock, and the history of a lock that was closed.
use Rattle.std.specs.Prelude.{◌≡◌, ℕ, suc, ◌<◌, ◌==◌, ◌+◌, ◌≤◌, ⊤, Bool, List, [], ◌∷◌, ◌++◌, length, vec_len, vec_capacity, Vec}
use Rattle.std.specs.Global.{Global}
use Rattle.std.specs.List.{All}
use mathlib.Core.Option.{some}
use lib.ListN.{get_elem?}
use base.Stored.{Gv}
use Rattle.turn_log.specs.declared.object.Played.{Ghosts}
use Rattle.turn_log.specs.declared.lock.parts.Turn.{Turn}
use Rattle.turn_log.specs.declared.lock.parts.Pass.{Pass}
use Rattle.turn_log.specs.History.{History, GoesOn}
use Rattle.turn_log.specs.Lock.{turn_passes, pass_number, pass_seen, pass_worn, pass_home, HasShape, IsPassOf}

-- ---- lists that go together

-- each item of one list goes with the item at the same place of the other
abbrev pub AreMatched : {X Y : Type 0} → (X → Y → Type 0) → List X → List Y → Type 0
AreMatched Fits [] [] = ⊤
AreMatched Fits [] (y ∷ ys) = ⊥
AreMatched Fits (x ∷ xs) [] = ⊥
AreMatched Fits (x ∷ xs) (y ∷ ys) = Fits x y × AreMatched Fits xs ys

-- the same of three lists
abbrev pub AreThree : {X Y Z : Type 0} → (X → Y → Z → Type 0) → List X → List Y → List Z → Type 0
AreThree Fits [] [] [] = ⊤
AreThree Fits [] [] (z ∷ zs) = ⊥
AreThree Fits [] (y ∷ ys) zs = ⊥
AreThree Fits (x ∷ xs) [] zs = ⊥
AreThree Fits (x ∷ xs) (y ∷ ys) [] = ⊥
AreThree Fits (x ∷ xs) (y ∷ ys) (z ∷ zs) = Fits x y z × AreThree Fits xs ys zs

-- ---- passes given back

-- a pile has room for so many more
abbrev pub HasRoom : {X : Type 0} → ℕ → Vec X Global → Type 0
HasRoom n pile = vec_len pile + n ≤ vec_capacity pile

module _ {V C A R S : Type 0} {g : Ghosts V C A R S} where
  -- a pass came to the others, with what is known of the place that gave it back
  pub record IsGivenBack {T : Type 0} (speaks : T → ℕ → Bool) (seen : T → History C) (home : T → Gv)
      (shape : T → S) (worn : T → ℕ) (place : T) (old new : List (Pass V C A R S g)) : Type 0 where
    pub pass : Pass V C A R S g
    pub more : new ≡ old ++ pass ∷ []
    pub number : (k : ℕ) → speaks place k ≡ (k == pass_number pass)
    pub saw : pass_seen pass ≡ seen place
    pub home_is : pass_home pass ≡ home place
    pub shape_is : HasShape pass (shape place)
    pub wore : pass_worn pass ≡ worn place

  -- a pass of this lock under this number, which has seen this
  pub record IsLeft (number : ℕ) (seen : History C) (pass : Pass V C A R S g)
      (lock : Turn V C A R S) : Type 0 where
    pub numbered : pass_number pass ≡ number
    pub saw : pass_seen pass ≡ seen
    pub here : IsPassOf pass lock

  -- passes of one lock, of callers numbered from this number on, each of which has seen the history
  -- at its place
  abbrev pub IsPileFrom : ℕ → List (History C) → List (Pass V C A R S g) → Turn V C A R S → Type 0
  IsPileFrom n [] [] lock = ⊤
  IsPileFrom n [] (pass ∷ passes) lock = ⊥
  IsPileFrom n (seen ∷ seens) [] lock = ⊥
  IsPileFrom n (seen ∷ seens) (pass ∷ passes) lock =
      IsLeft n seen pass lock × IsPileFrom (suc n) seens passes lock

  abbrev pub IsPile : List (History C) → List (Pass V C A R S g) → Turn V C A R S → Type 0
  IsPile seens passes lock = IsPileFrom 0 seens passes lock

  -- none of these passes met its lock worn by more turns than so many
  abbrev pub AreWithin : ℕ → List (Pass V C A R S g) → Type 0
  AreWithin most passes =
      (i : ℕ) (pass : Pass V C A R S g) → get_elem? passes i ≡ some pass → pass_worn pass ≤ most

  -- ---- closing

  -- these are all passes of the lock
  pub record AreAllOf (passes : List (Pass V C A R S g)) (lock : Turn V C A R S) : Type 0 where
    pub here : (i : ℕ) (pass : Pass V C A R S g) → get_elem? passes i ≡ some pass
        → IsPassOf pass lock
    pub all : length passes ≡ turn_passes lock

  -- what the lock of these passes was closed with: one history, which each of them has seen a
  -- beginning of and after that called nothing, and no other caller called anything; where one of
  -- them met the lock worn by so many turns, it has as many calls
  pub record HasAllOf (passes : List (Pass V C A R S g)) (whole : History C) : Type 0 where
    pub numbers : All (λ (entry : ℕ × C). entry.0 < length passes) whole
    pub each : (i : ℕ) (pass : Pass V C A R S g) → get_elem? passes i ≡ some pass
        → GoesOn (pass_number pass) (pass_seen pass) whole
    pub worn : AreWithin (length whole) passes

-- One whole history of callers that have each seen this of it: only they are in it, and each has
-- seen a beginning of it, after which it called nothing.
pub record IsWhole {C : Type 0} (seens : List (History C)) (whole : History C) : Type 0 where
  pub numbers : All (λ (entry : ℕ × C). entry.0 < length seens) whole
  pub each : (k : ℕ) (seen : History C) → get_elem? seens k ≡ some seen → GoesOn k seen whole
