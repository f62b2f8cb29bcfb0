-- How the turns of a race were shared.
use Rattle.std.specs.Prelude.{◌≡◌, ℕ, ◌-◌, ◌^◌, ◌≤◌, List, length, take, min}
use Rattle.std.specs.List.{All, sum}
use Rattle.turn_log.specs.History.{History, own}
use Rattle.bench_lock.specs.declared.race.Shares.{Shares}

-- no thread took fewer turns than the fewest, and none more than the most
pub record AreBounds (shares : Shares) (taken : List ℕ) : Type 0 where
  pub fewest : All (λ count. shares.fewest ≤ count) taken
  pub most : All (λ count. count ≤ shares.most) taken

-- the turns of all threads together, as far as 64 bits count
abbrev pub IsSum : Shares → List ℕ → Type 0
IsSum shares taken = shares.turns ≡ min (sum taken) (2 ^ 64 - 1)

-- how many of the first so many calls of a history are this caller's
abbrev pub share : ℕ → ℕ → History (Unit {0}) → ℕ
share me turns history = length (own me (take turns history))
