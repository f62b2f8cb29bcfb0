-- A caller's place at a press, and what it put there.
use Rattle.std.specs.Prelude.{◌≡◌, ℕ, ◌==◌, Bool, List, ◌++◌}
use base.Stored.{Gv}
use Rattle.turn_log.specs.declared.lock.parts.Turn.{Turn}
use Rattle.turn_log.specs.History.{History, own}
use Rattle.turn_log.specs.Lock.{turn_home, turn_value}
use Rattle.caster_press.specs.declared.line.Line.{Line}
use Rattle.caster_press.specs.declared.press.OutputStart.{OutputStart}

-- A place: the callers that it speaks for, which lock it is at, what the output told before the
-- first line, and the lines that were put so far as the place has seen them.
pub record PlaceTold : Type 0 where
  pub speaks : ℕ → Bool
  pub home : Gv
  pub start : OutputStart
  pub seen : History Line

-- the place is what it was, but for what it has seen
pub record IsSamePlace (old new : PlaceTold) : Type 0 where
  pub speaks : new.speaks ≡ old.speaks
  pub home : new.home ≡ old.home
  pub start : new.start ≡ old.start

-- The history went on: this caller put exactly these lines, in this order. Others may have put
-- lines before, between and behind them.
pub record HasPut (me : ℕ) (lines : List Line) (old new : History Line) : Type 0 where
  pub more : History Line
  pub goes_on : new ≡ old ++ more
  pub mine : own me more ≡ lines

-- the lock of a press: which one it is, and what the output told before the first line
pub record LockTold : Type 0 where
  pub home : Gv
  pub start : OutputStart

-- of this lock, whose objects have such a shape
abbrev pub lock_told : {V C A R : Type 0} → (V → OutputStart) → Turn V C A R OutputStart → LockTold
lock_told shape lock = record { home = turn_home lock; start = shape (turn_value lock) }

-- the place speaks for this caller alone, at this lock
pub record IsAt (number : ℕ) (place : PlaceTold) (lock : LockTold) : Type 0 where
  pub speaks : (k : ℕ) → place.speaks k ≡ (k == number)
  pub home : place.home ≡ lock.home
  pub start : place.start ≡ lock.start
