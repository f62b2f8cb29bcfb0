-- The stream of draws: numbers that are read off the states of a linear congruential generator.
use Rattle.std.specs.Prelude.{ℕ, zero, suc, ◌+◌, ◌*◌, ◌/◌, ◌%◌, ◌^◌}

-- the state after this one, modulo 2^64
unfoldable pub next_state : ℕ → ℕ
next_state state = (state * 6364136223846793005 + 1442695040888963407) % 2 ^ 64

-- the state after so many draws
unfoldable pub state_after : ℕ → ℕ → ℕ
state_after zero state = state
state_after (suc draws) state = next_state (state_after draws state)

-- what a draw reads off its state: the upper 31 bits, as a number below the bound
unfoldable pub number_below : ℕ → ℕ → ℕ
number_below bound state = state / 2 ^ 33 % bound

-- the number below the bound that draw i gives, counted from 0, in a stream that starts in this
-- state
abbrev pub drawn : ℕ → ℕ → ℕ → ℕ
drawn state i bound = number_below bound (state_after (i + 1) state)
