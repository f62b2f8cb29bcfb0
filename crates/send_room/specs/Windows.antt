-- What a peer took, part by part, and how much of that was lately.
use Rattle.std.specs.Prelude.{ℕ, ◌+◌, ◌/◌, ◌≤◌, nat_lt, if◌then◌else◌, sum_by, List, [], ◌∷◌}
use Rattle.send_room.specs.declared.flow.Flow.{Flow}
use Rattle.send_room.specs.Flows.{with_taken}

-- so many bytes that a peer took at this time
pub record Part : Type 0 where
  pub at : ℕ
  pub count : ℕ

-- the parts come in the order of their half seconds, from this one on up to that one
abbrev pub InOrder : ℕ → List Part → ℕ → Type 0
InOrder first [] last = first ≤ last
InOrder first (part ∷ more) last = (first ≤ part.at / 500) × InOrder (part.at / 500) more last

-- a flow that was told of these parts, one after the other
abbrev pub behind : List Part → Flow → Flow
behind [] flow = flow
behind (part ∷ more) flow = behind more (with_taken part.at part.count flow)

-- how many bytes all of these parts have
abbrev pub size_of : List Part → ℕ
size_of parts = sum_by (λ part. part.count) parts

-- how many of these bytes were taken in so many half seconds up to this time
abbrev pub recent : ℕ → ℕ → List Part → ℕ
recent halves now parts =
    sum_by (λ part. if nat_lt (now / 500) (part.at / 500 + halves) then part.count else 0) parts
