-- When the link of a connection may rest.
use Rattle.std.specs.Prelude.{ℕ, ◌-◌, ◌&&◌, Bool, false, not, nat_lt, is_some, Option, None, Some}
use Rattle.cast_io.specs.declared.steps.Step.{Step}
use Rattle.cast_io.specs.declared.steps.Step.TheVariants as took
use Rattle.session_core.specs.declared.rover_state.RoverState.{RoverState}
use Rattle.session_core.specs.declared.session.Session.{Session}
use Rattle.session_core.specs.States.{rover_state}

-- the place of the next frame that a rover reads; 0 of any other session
abbrev pub next_in : Option RoverState → ℕ
next_in None = 0
next_in (Some state) = state.next

abbrev pub next_of : Session → ℕ
next_of session = next_in (rover_state session)

-- The session goes on, and since it read from this place on it looked at fewer frames than a turn
-- may take: no frame is left for it.
abbrev pub is_caught_up : Session → ℕ → Bool
is_caught_up session from =
    not (is_some session.ended) && nat_lt (next_of session - from) 16

-- Behind a read that was this step of the link, from the session before it to that after it: it
-- found nothing, and no frame is left.
abbrev pub rests_behind : Step → Session → Session → Bool
rests_behind took.Idle before after = is_caught_up after (next_of before)
rests_behind _ before after = false
