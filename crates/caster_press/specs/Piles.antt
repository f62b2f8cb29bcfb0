-- Callers at a press as they leave it, and the history that a press was closed with.
use Rattle.std.specs.Prelude.{◌≡◌, ℕ, suc, ◌<◌, ⊤, List, [], ◌∷◌, length}
use Rattle.std.specs.List.{All}
use mathlib.Core.Option.{some}
use lib.ListN.{get_elem?}
use Rattle.turn_log.specs.declared.object.Played.{Ghosts}
use Rattle.turn_log.specs.declared.lock.parts.Pass.{Pass}
use Rattle.turn_log.specs.History.{History, own}
use Rattle.turn_log.specs.Lock.{pass_number, pass_seen, pass_home, HasShape}
use Rattle.caster_press.specs.declared.line.Line.{Line}
use Rattle.caster_press.specs.declared.press.OutputStart.{OutputStart}
use Rattle.caster_press.specs.Places.{LockTold}

module _ {V A R : Type 0} {g : Ghosts V Line A R OutputStart} where
  -- a pass of this lock under this number, which has seen this
  pub record IsLeft (number : ℕ) (seen : History Line) (pass : Pass V Line A R OutputStart g)
      (lock : LockTold) : Type 0 where
    pub numbered : pass_number pass ≡ number
    pub saw : pass_seen pass ≡ seen
    pub here : (pass_home pass ≡ lock.home) × HasShape pass lock.start

  -- passes of this lock that callers gave back, who are numbered from this number on, each with
  -- what its caller has seen of the lines that were put
  abbrev pub IsPileFrom : ℕ → List (History Line) → List (Pass V Line A R OutputStart g) → LockTold → Type 0
  IsPileFrom n [] [] lock = ⊤
  IsPileFrom n [] (pass ∷ passes) lock = ⊥
  IsPileFrom n (seen ∷ rows) [] lock = ⊥
  IsPileFrom n (seen ∷ rows) (pass ∷ passes) lock =
      IsLeft n seen pass lock × IsPileFrom (suc n) rows passes lock

  abbrev pub IsPile : List (History Line) → List (Pass V Line A R OutputStart g) → LockTold → Type 0
  IsPile rows passes lock = IsPileFrom 0 rows passes lock

-- One whole history of callers that have seen this: each one's own lines are exactly those that it
-- has seen of itself, and nobody else put a line.
pub record IsWhole (rows : List (History Line)) (whole : History Line) : Type 0 where
  pub numbers : All (λ (entry : ℕ × Line). entry.0 < length rows) whole
  pub owns : (k : ℕ) (seen : History Line) → get_elem? rows k ≡ some seen
      → own k whole ≡ own k seen
