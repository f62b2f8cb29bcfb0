-- Callers at a press, each with its work, and what they put there.
use Rattle.std.specs.Prelude.{◌≡◌, ℕ, suc, ◌<◌, IsTrue, ⊤, Bool, List, [], ◌∷◌, length, map, Option}
use Rattle.std.specs.List.{All}
use mathlib.Core.Option.{some}
use lib.ListN.{get_elem?}
use Rattle.turn_log.specs.declared.object.Played.{Ghosts}
use Rattle.turn_log.specs.declared.lock.parts.Turn.{Turn}
use Rattle.turn_log.specs.declared.lock.parts.Pass.{Pass}
use Rattle.turn_log.specs.History.{History, own}
use Rattle.turn_log.specs.Lock.{pass_number, pass_seen, IsPassOf}
use Rattle.caster_press.specs.declared.line.Line.{Line}
use Rattle.caster_press.specs.declared.press.OutputStart.{OutputStart}
use Rattle.caster_press.specs.Lines.{text_in}
use Rattle.caster_press.specs.Piles.{IsPile}
use Rattle.caster_press.specs.Places.{PlaceTold, IsSamePlace, IsAt, LockTold}
use Rattle.caster_press.specs.Written.{IsWritten}

-- a caller: its number, and its place
pub record CallerTold : Type 0 where
  pub number : ℕ
  pub place : PlaceTold

abbrev pub caller_told : ℕ → PlaceTold → CallerTold
caller_told number place = record { number = number; place = place }

-- the lines that it has put, in order: its own of the history, as far as its place has seen it
abbrev pub lines_put : CallerTold → List Line
lines_put caller = own caller.number caller.place.seen

-- what one work does, from before to after, that put these lines
abbrev pub Wrote : Type 0 → Type 1
Wrote W = W → W → List Line → Type 0

-- its place speaks for it, and it has put nothing yet
abbrev pub MayCall : CallerTold → Type 0
MayCall caller = IsTrue (caller.place.speaks caller.number) × (lines_put caller ≡ [])

-- the caller did its work: it has its number, and its place is what it was
pub record HasCalled (old new : CallerTold) : Type 0 where
  pub number : new.number ≡ old.number
  pub same : IsSamePlace old.place new.place

-- each caller of the first list did its work, and is at the same place of the second
abbrev pub HaveCalled : List CallerTold → List CallerTold → Type 0
HaveCalled [] [] = ⊤
HaveCalled [] (new ∷ news) = ⊥
HaveCalled (old ∷ olds) [] = ⊥
HaveCalled (old ∷ olds) (new ∷ news) = HasCalled old new × HaveCalled olds news

module _ {V A R : Type 0} {g : Ghosts V Line A R OutputStart} where
  -- a pass of this lock under this number, which has seen nothing
  pub record IsNew (number : ℕ) (pass : Pass V Line A R OutputStart g)
      (lock : Turn V Line A R OutputStart) : Type 0 where
    pub numbered : pass_number pass ≡ number
    pub unseen : pass_seen pass ≡ []
    pub here : IsPassOf pass lock

-- a caller at this lock under this number
pub record IsCaller (number : ℕ) (caller : CallerTold) (lock : LockTold) : Type 0 where
  pub numbered : caller.number ≡ number
  pub at : IsAt number caller.place lock

-- so are these, numbered from this number on
abbrev pub AreCallers : ℕ → List CallerTold → LockTold → Type 0
AreCallers n [] lock = ⊤
AreCallers n (caller ∷ callers) lock = IsCaller n caller lock × AreCallers (suc n) callers lock

-- so are these, and none of them has put a line yet
abbrev pub AreNewCallers : ℕ → List CallerTold → LockTold → Type 0
AreNewCallers n [] lock = ⊤
AreNewCallers n (caller ∷ callers) lock =
    (IsCaller n caller lock × (lines_put caller ≡ [])) × AreNewCallers (suc n) callers lock

-- what they have seen
abbrev pub rows_of : List CallerTold → List (History Line)
rows_of callers = map (λ (caller : CallerTold). caller.place.seen) callers

module _ {V A R W : Type 0} {g : Ghosts V Line A R OutputStart} where
  -- Callers numbered from 0, each with the work at the same place of the first list, did their
  -- works at this lock, and left: the works as they are now are the second list, and these passes
  -- were given back. Each work put exactly the lines of its caller.
  pub record HaveLeft (wrote : Wrote W) (lock : LockTold) (olds news : List W)
      (passes : List (Pass V Line A R OutputStart g)) : Type 0 where
    pub count : length news ≡ length olds
    pub callers : List CallerTold
    pub as_many : length callers ≡ length news
    pub here : AreCallers 0 callers lock
    pub pile : IsPile (rows_of callers) passes lock
    pub each : (k : ℕ) (caller : CallerTold) (old new : W) → get_elem? callers k ≡ some caller
        → get_elem? olds k ≡ some old → get_elem? news k ≡ some new
        → wrote old new (lines_put caller)

-- Works of callers numbered from 0 wrote on an output that was so at the start. The text is that of
-- one whole history, of which each caller's own lines are exactly those that its work put, in its
-- order, and nobody else put any. It was written whole; or a write failed, and some first part was.
pub record HaveWritten {W : Type 0} (wrote : Wrote W) (start : OutputStart) (torn : Bool)
    (taken : Option (List ℕ)) (faults : ℕ) (olds news : List W) : Type 0 where
  pub count : length news ≡ length olds
  pub whole : History Line
  pub text : IsWritten torn start taken faults (text_in whole)
  pub nobody_else : All (λ (entry : ℕ × Line). entry.0 < length news) whole
  pub each : (k : ℕ) (old new : W) → get_elem? olds k ≡ some old → get_elem? news k ≡ some new
      → wrote old new (own k whole)
