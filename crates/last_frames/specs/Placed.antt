-- What callers see of a hall, and of a place at the ring of a station.
use Rattle.std.specs.Prelude.{ℕ, List}
use Rattle.last_frames.specs.Greeted.{Greeting}

-- what a hall holds: the frames that were read last, and those of the last greeting
pub record InHall : Type 0 where
  pub outbox : List (List ℕ)
  pub greeting : List (List ℕ)

-- what a place at a station shows
pub record Placed (T : Type 0) : Type 0 where
  -- the place at the station itself
  pub inner : T
  -- the greeting of the last one who joined since it was made or cleared, if somebody did
  pub greeting : Greeting
  -- how many calls there were then
  pub since : ℕ
