use Rattle.std.proofs.Common.{◌≡◌, ℕ, ◌+◌, ◌≤◌, List, length, map}
use Rattle.turn_log.specs.History.{History}
use Rattle.turn_log.specs.Heard.{Heard}
use Rattle.turn_log.specs.Turn.{SamePlace}
use Rattle.ring_tests.proofs.desk_tests.take_many.Given as goal

-- so many tickets were given so far, and the place is what it was
abbrev pub invariant-loop : goal.invariant-loop
invariant-loop g l =
    let place = g.T.Turns in
    let number : History ℕ → ℕ → ℕ → ℕ = λ h me known. place.shape l.fn.place + length h in
    SamePlace place.shape place.speaks place.may_lack place.alone place.home l.fn.place l.place
    × (place.worn l.fn.place ≤ place.worn l.place)
    × ((numbers : List ℕ) × (length numbers ≡ l.counter)
    × Heard (place.alone l.fn.place) number (place.seen l.fn.place) (place.seen l.place) l.me
    (map (λ number. (0, number)) numbers))
