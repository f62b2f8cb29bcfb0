-- The session that is made of a number: its connections, its rounds and its last turns.
use Rattle.std.specs.Prelude.{ℕ, zero, suc, ◌+◌, ◌*◌, ◌/◌, ◌%◌, List, [], ◌∷◌, ◌++◌, map, codes}
use Rattle.std.specs.List.{flat_map, range_with_len}
use Rattle.rtcm_frame.specs.Transport.{framed}
use Rattle.session_script.specs.declared.Event.{Event}
use Rattle.session_script.specs.declared.Event.TheVariants.{Source, Rover, In, Turn}
use Rattle.session_make.specs.Draws.{state_after, drawn}

-- ---- one round: a frame arrives, and a rover takes a turn

-- each number of a round is a draw of the stream that starts in the round's state

-- draw 0: how many bytes stand behind the first two of the payload, 0 to 98
abbrev pub filling : ℕ → ℕ
filling state = drawn state 0 99

-- draw 1: the message number, 1001 to 1229
abbrev pub message_number : ℕ → ℕ
message_number state = 1001 + drawn state 1 229

-- the message number in the first twelve bits, four bits of zero, and then a draw for each byte,
-- from draw 2 on
abbrev pub payload_of : ℕ → List ℕ
payload_of state =
    (message_number state / 16) ∷ (message_number state % 16 * 16)
    ∷ map (λ i. drawn state i 256) (range_with_len 2 (filling state))

-- the whole frame of this payload (RTCM 10403.3, transport layer), with reserved bits of zero
abbrev pub frame_of : ℕ → List ℕ
frame_of state = framed 0 (payload_of state)

-- the draw behind the payload's: the rover that takes a turn, 2 to rovers + 1
abbrev pub rover_of : ℕ → ℕ → ℕ
rover_of rovers state = 2 + drawn state (filling state + 2) rovers

-- the last draw of the round: the turn's budget, 1 to 16
abbrev pub budget_of : ℕ → ℕ
budget_of state = 1 + drawn state (filling state + 3) 16

-- the source's bytes are a whole frame, and then a rover takes its turn
unfoldable pub round : ℕ → ℕ → List Event
round rovers state =
    In 1 (frame_of state) ∷ Turn (rover_of rovers state) (budget_of state) ∷ []

-- the state in which the next round starts, after all draws of this one
unfoldable pub after_round : ℕ → ℕ
after_round state = state_after (filling state + 4) state

-- the state in which round j starts, counted from 0: the first starts in the seed
unfoldable pub round_start : ℕ → ℕ → ℕ
round_start seed zero = seed
round_start seed (suc j) = after_round (round_start seed j)

-- ---- the session

-- so many rounds
abbrev pub rounds : ℕ → ℕ → ℕ → List Event
rounds seed frames rovers =
    flat_map (λ j. round rovers (round_start seed j)) (range_with_len 0 frames)

-- connection 1 is a source, and the next ones are rovers, all at mountpoint `A`
abbrev pub opening : ℕ → List Event
opening rovers = Source 1 (codes "A") ∷ map (λ k. Rover k (codes "A")) (range_with_len 2 rovers)

-- each rover's turn with the largest budget
abbrev pub last_turns : ℕ → List Event
last_turns rovers = map (λ k. Turn k 16) (range_with_len 2 rovers)

-- the connections open, a round for each frame, and then a turn more for each rover
unfoldable pub events_of : ℕ → ℕ → ℕ → List Event
events_of seed frames rovers = opening rovers ++ rounds seed frames rovers ++ last_turns rovers
