-- How large a session is that is made: its events, the bytes that come in, and its script.
use Rattle.std.proofs.Common.{◌≡◌, ℕ, zero, suc, ◌+◌, ◌*◌, ◌<◌, ◌≤◌, List, [], ◌∷◌, ◌++◌, map, length, refl, arith, length-append}
use Rattle.std.specs.Prelude.{codes, sum_by}
use Rattle.std.specs.List.{flat_map, range_with_len}
use Rattle.std.specs.Fmt.{decimal}
use Rattle.std.proofs.lemmas.Fmt.{length-decimal-le}
use Rattle.std.proofs.lemmas.List.Concat.{length-flat_map}
use Rattle.std.proofs.lemmas.List.FromFn.{length-map-range_with_len}
use Rattle.std.proofs.lemmas.List.Sums.{sum_by-append, sum_by-cons}
use Rattle.hex.specs.Hex.{encode_lower, lower_digits}
use Rattle.hex.proofs.HexLemmas.{length-encode_with}
use Rattle.session_script.specs.declared.Event.{Event}
use Rattle.session_script.specs.declared.Event.TheVariants.{Source, Rover, In, Turn}
use Rattle.session_script.specs.Line.{line_text}
use Rattle.session_script.specs.Script.{input_length}
use Rattle.session_script.specs.Writing.{script_text}
use Rattle.session_make.specs.Rounds as made
use Rattle.session_make.specs.Rounds.{filling, frame_of, rover_of, budget_of, round, round_start, rounds, opening, last_turns, events_of}
use Rattle.session_make.proofs.FrameLemmas.{drawn_below, frame_within}

-- ---- sums over the events, whatever is summed

row_sum : (g : Event → ℕ) (f : ℕ → Event) (a n most limit : ℕ) → ((k : ℕ) → k < limit → g (f k) ≤ most)
    → a + n ≤ limit → sum_by g (map f (range_with_len a n)) ≤ n * most
row_sum g f a zero most limit each within = omega arith
row_sum g f a (suc n) most limit each within =
    let sum = sum_by-cons g (f a) (map f (range_with_len (a + 1) n)) in
    let first = each a (omega arith) in
    let others = row_sum g f (a + 1) n most limit each (omega arith) in
    omega (arith, sum, first, others)

rounds_sum : (g : Event → ℕ) (rovers seed a n most : ℕ) → ((state : ℕ) → sum_by g (round rovers state) ≤ most)
    → sum_by g (flat_map (λ j. round rovers (round_start seed j)) (range_with_len a n)) ≤ n * most
rounds_sum g rovers seed a zero most each = omega arith
rounds_sum g rovers seed a (suc n) most each =
    let rest = flat_map (λ j. round rovers (round_start seed j)) (range_with_len (a + 1) n) in
    let sum = sum_by-append g (round rovers (round_start seed a)) rest in
    let first = each (round_start seed a) in
    let others = rounds_sum g rovers seed (a + 1) n most each in
    omega (arith, sum, first, others)

-- what each kind of event adds at most
record AddAtMost (g : Event → ℕ) (rovers at_opening at_round at_last : ℕ) : Type 0 where
  source : g (Source 1 (codes "A")) ≤ at_opening
  rover : (k : ℕ) → k < 66 → g (Rover k (codes "A")) ≤ at_opening
  round : (state : ℕ) → sum_by g (made.round rovers state) ≤ at_round
  last : (k : ℕ) → k < 66 → g (Turn k 16) ≤ at_last

events_sum : (g : Event → ℕ) (seed frames rovers at_opening at_round at_last : ℕ) → rovers ≤ 64
    → AddAtMost g rovers at_opening at_round at_last
    → sum_by g (events_of seed frames rovers)
    ≤ at_opening + rovers * at_opening + frames * at_round + rovers * at_last
unfolding events_of
events_sum g seed frames rovers at_opening at_round at_last few h =
    let parts = sum_by-append g (opening rovers ++ rounds seed frames rovers) (last_turns rovers) in
    let front = sum_by-append g (opening rovers) (rounds seed frames rovers) in
    let first = sum_by-cons g (Source 1 (codes "A")) (map (λ k. Rover k (codes "A")) (range_with_len 2 rovers)) in
    let opened = row_sum g (λ k. Rover k (codes "A")) 2 rovers at_opening 66 h.rover (omega arith) in
    let middle = rounds_sum g rovers seed 0 frames at_round h.round in
    let last = row_sum g (λ k. Turn k 16) 2 rovers at_last 66 h.last (omega arith) in
    let source = h.source in
    omega (arith, parts, front, first, opened, middle, last, source)

-- ---- the bytes that come in

input_added : (rovers : ℕ) → AddAtMost input_length rovers 0 106 0
unfolding round
input_added rovers = record {
  source = omega arith;
  rover = λ k below. omega arith;
  round = λ state. let within = frame_within state in omega (arith, within.1);
  last = λ k below. omega arith;
}

pub input_within : (seed frames rovers : ℕ) → rovers ≤ 64
    → sum_by input_length (events_of seed frames rovers) ≤ 106 * frames
input_within seed frames rovers few =
    let sum = events_sum input_length seed frames rovers 0 106 0 few (input_added rovers) in
    omega (arith, sum)

-- ---- the number of events

round_length : (rovers seed a n : ℕ)
    → length (flat_map (λ j. round rovers (round_start seed j)) (range_with_len a n)) ≡ 2 * n
unfolding round
round_length rovers seed a zero = refl
round_length rovers seed a (suc n) = let others = round_length rovers seed (a + 1) n in omega (arith, others)

pub events_count : (seed frames rovers : ℕ) → length (events_of seed frames rovers) ≡ 1 + 2 * frames + 2 * rovers
unfolding events_of
events_count seed frames rovers =
    let parts = length-append (opening rovers ++ rounds seed frames rovers) (last_turns rovers) in
    let front = length-append (opening rovers) (rounds seed frames rovers) in
    let opened = length-map-range_with_len (λ k. Rover k (codes "A")) 2 rovers in
    let last = length-map-range_with_len (λ k. Turn k 16) 2 rovers in
    omega (arith, parts, front, opened, round_length rovers seed 0 frames, last)

-- ---- the script

abbrev line_length : Event → ℕ
line_length event = length (line_text event ++ 10 ∷ [])

ended_length : (text : List ℕ) → length (text ++ 10 ∷ []) ≡ length text + 1
ended_length text = length-append text (10 ∷ [])

short_number : (k : ℕ) → k < 100 → length (decimal k) ≤ 2
short_number k below = length-decimal-le 2 k (omega arith) (omega arith) (omega arith)

rover_line : (k : ℕ) → k < 66 → line_length (Rover k (codes "A")) ≤ 11
rover_line k below =
    let name = length-append (decimal k) (32 ∷ 65 ∷ []) in
    omega (arith, ended_length (line_text (Rover k (codes "A"))), name, short_number k (omega arith))

source_line : line_length (Source 1 (codes "A")) ≤ 11
source_line =
    let name = length-append (decimal 1) (32 ∷ 65 ∷ []) in
    let one = length-decimal-le 1 1 (omega arith) (omega arith) (omega arith) in
    omega (arith, ended_length (line_text (Source 1 (codes "A"))), name, one)

turn_line : (k budget : ℕ) → k < 66 → budget < 17 → line_length (Turn k budget) ≤ 11
turn_line k budget below few =
    let number = length-append (decimal k) (32 ∷ decimal budget) in
    let whole = ended_length (line_text (Turn k budget)) in
    omega (arith, whole, number, short_number k (omega arith), short_number budget (omega arith))

frame_line : (state : ℕ) → line_length (In 1 (frame_of state)) ≤ 219
frame_line state =
    let bytes = frame_of state in
    let number = length-append (decimal 1) (32 ∷ encode_lower bytes) in
    let digits = length-encode_with lower_digits bytes in
    let within = frame_within state in
    omega (arith, ended_length (line_text (In 1 bytes)), number, digits, within.1, short_number 1 (omega arith))

lines_added : (rovers : ℕ) → 1 ≤ rovers → rovers ≤ 64 → AddAtMost line_length rovers 11 230 11
unfolding round
lines_added rovers some few = record {
  source = source_line;
  rover = rover_line;
  round = λ state.
      let rover = drawn_below state (filling state + 2) rovers some in
      let budget = drawn_below state (filling state + 3) 16 (omega arith) in
      let frame = frame_line state in
      let turn = turn_line (rover_of rovers state) (budget_of state) (omega (arith, rover)) (omega (arith, budget)) in
      omega (arith, frame, turn);
  last = λ k below. turn_line k 16 below (omega arith);
}

pub script_within : (seed frames rovers : ℕ) → 1 ≤ rovers → rovers ≤ 64
    → length (script_text (events_of seed frames rovers)) ≤ 1424 + 230 * frames
script_within seed frames rovers some few =
    let events = events_of seed frames rovers in
    let sum = events_sum line_length seed frames rovers 11 230 11 few (lines_added rovers some few) in
    let lines = length-flat_map (λ event. line_text event ++ 10 ∷ []) events in
    let whole = length-append (flat_map (λ event. line_text event ++ 10 ∷ []) events) (codes "stop\n") in
    omega (arith, sum, lines, whole)
