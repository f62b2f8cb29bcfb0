-- The numbers of the connections that a script opened and closed.
use Rattle.std.specs.Prelude.{ℕ, Bool, not, ◌&&◌, nat_lt, ◌==◌, List, [], ◌∷◌, ◌++◌, length}
use Rattle.std.specs.List.{list_any}

-- the numbers of the connections that were opened so far, and of those that break or end closed
pub record Numbers : Type 0 where
  pub opened : List ℕ
  pub closed : List ℕ

-- nothing was opened yet
abbrev pub no_numbers : Numbers
no_numbers = record { opened = []; closed = [] }

-- the number is one of these
abbrev pub is_among : ℕ → List ℕ → Bool
is_among k numbers = list_any (λ n. n == k) numbers

-- the number is new, and fewer than 256 were opened
abbrev pub may_open : Numbers → ℕ → Bool
may_open numbers k = not (is_among k numbers.opened) && nat_lt (length numbers.opened) 256

-- the number was opened, and not closed since
abbrev pub may_speak : Numbers → ℕ → Bool
may_speak numbers k = is_among k numbers.opened && not (is_among k numbers.closed)

-- one more that is opened
abbrev pub opening : Numbers → ℕ → Numbers
opening numbers k = record numbers { opened = numbers.opened ++ k ∷ [] }

-- one more that is closed
abbrev pub closing : Numbers → ℕ → Numbers
closing numbers k = record numbers { closed = numbers.closed ++ k ∷ [] }
