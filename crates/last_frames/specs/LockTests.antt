-- A pass as the tests of a lock hand it on.
use Rattle.std.specs.Prelude.{◌≡◌, ℕ, ◌==◌, true}
use Rattle.turn_log.specs.declared.Played.{Ghosts}
use Rattle.turn_log.specs.declared.Pass.{Pass}
use Rattle.turn_log.specs.declared.Turn.{Turn}
use Rattle.turn_log.specs.Lock.{pass_number, IsPassOf}

module _ {V C A R S : Type 0} {g : Ghosts V C A R S} where
  -- it is one of this lock's, and of this caller
  pub record IsHanded (pass : Pass V C A R S g) (turn : Turn V C A R S) (me : ℕ) : Type 0 where
    pub here : IsPassOf pass turn
    pub number : (me == pass_number pass) ≡ true
