-- What is made is a session of a bare script.
use Rattle.std.proofs.Common.{◌≡◌, ℕ, zero, suc, ◌+◌, ◌<◌, ◌≤◌, Bool, true, false, not, ◌&&◌, ◌||◌, ◌==◌, List, [], ◌∷◌, ◌++◌, map, length, refl, ap, subst, sym, ◌∙◌, arith, append_assoc, add-one, inl, inr}
use Rattle.std.specs.Prelude.{nat_lt, nat_le, codes}
use Rattle.std.specs.List.{list_all, flat_map, range_with_len}
use Rattle.std.proofs.lemmas.Bool.{and_from, lt-ltb, le-leb, cases_Bool, eqb-false}
use Rattle.std.proofs.lemmas.Bool.Decides.{nat_tests}
use Rattle.std.proofs.lemmas.List.FromFn.{length-range_with_len}
use Rattle.session_script.specs.declared.Event.{Event}
use Rattle.session_script.specs.declared.Event.TheVariants.{Source, Rover, In, Turn}
use Rattle.session_script.specs.declared.ScriptKind.TheVariants.{Bare}
use Rattle.session_script.specs.Line.{is_connection, is_input, is_event}
use Rattle.session_script.specs.Numbers.{Numbers, no_numbers, is_among, may_open, may_speak, opening}
use Rattle.session_script.specs.Script.{may_follow, after_event, is_session_after}
use Rattle.session_make.specs.Rounds as made
use Rattle.session_make.specs.Rounds.{filling, frame_of, rover_of, budget_of, round, round_start, rounds, last_turns, events_of}
use Rattle.session_make.proofs.FrameLemmas.{drawn_below, frame_is_bytes, frame_within}
use Rattle.session_make.proofs.RoundLemmas.{range_more}

-- connections 1 to n are open
abbrev open_to : ℕ → Numbers
open_to n = record { opened = range_with_len 1 n; closed = [] }

among : (k a n : ℕ) → a ≤ k → k < a + n → is_among k (range_with_len a n) ≡ true
among k a zero least most = absurd (omega arith)
among k a (suc n) least most =
    let others = is_among k (range_with_len (a + 1) n) in
    elim (cases_Bool (a == k)) [
      | inl same ↦ ap (λ (test : Bool). test || others) same
      | inr other ↦
          let apart = eqb-false a k other in
          ap (λ (test : Bool). test || others) other ∙ among k (a + 1) n (omega (arith, apart)) (omega arith)
    ]

not_among : (k a n : ℕ) → a + n ≤ k → is_among k (range_with_len a n) ≡ false
not_among k a zero past = refl
not_among k a (suc n) past =
    let others = is_among k (range_with_len (a + 1) n) in
    let other : (a == k) ≡ false = grind (arith, nat_tests) in
    ap (λ (test : Bool). test || others) other ∙ not_among k (a + 1) n (omega arith)

goes_on : (numbers : Numbers) (event : Event) (events : List Event) → is_event Bare event ≡ true
    → may_follow Bare numbers event ≡ true → is_session_after Bare (after_event numbers event) events ≡ true
    → is_session_after Bare numbers (event ∷ events) ≡ true
goes_on numbers event events fits may others =
    and_from (is_event Bare event && may_follow Bare numbers event)
    (is_session_after Bare (after_event numbers event) events)
    (and_from (is_event Bare event) (may_follow Bare numbers event) fits may) others

connection : (k : ℕ) → 1 ≤ k → k ≤ 65 → is_connection k ≡ true
connection k least most = and_from (nat_le 1 k) (nat_le k 9999) (le-leb 1 k least) (le-leb k 9999 (omega arith))

speaks : (n k : ℕ) → 1 ≤ k → k ≤ n → may_speak (open_to n) k ≡ true
speaks n k least most =
    and_from (is_among k (range_with_len 1 n)) true (among k 1 n least (omega arith)) refl

-- a turn, and the bytes of a frame
turn_then : (n k budget : ℕ) (events : List Event) → 1 ≤ k → k ≤ n → n ≤ 65 → 1 ≤ budget → budget ≤ 16
    → is_session_after Bare (open_to n) events ≡ true
    → is_session_after Bare (open_to n) (Turn k budget ∷ events) ≡ true
turn_then n k budget events least most small some few others =
    goes_on (open_to n) (Turn k budget) events
    (and_from (is_connection k && nat_le 1 budget) (nat_le budget 16)
    (and_from (is_connection k) (nat_le 1 budget) (connection k least (omega arith)) (le-leb 1 budget some))
    (le-leb budget 16 few))
    (speaks n k least most) others

frame_then : (n state : ℕ) (events : List Event) → 1 ≤ n
    → is_session_after Bare (open_to n) events ≡ true
    → is_session_after Bare (open_to n) (In 1 (frame_of state) ∷ events) ≡ true
frame_then n state events some others =
    let bytes = frame_of state in
    let within = frame_within state in
    let input : is_input bytes ≡ true =
    and_from (nat_le 1 (length bytes)) (nat_le (length bytes) 4096) (le-leb 1 (length bytes) (omega (arith, within.0)))
    (le-leb (length bytes) 4096 (omega (arith, within.1)))
    in
    goes_on (open_to n) (In 1 bytes) events
    (and_from (is_input bytes) (list_all (λ b. nat_lt b 256) bytes) input (frame_is_bytes state))
    (speaks n 1 (omega arith) some) others

-- the rounds
rounds_then : (seed rovers a count : ℕ) (events : List Event) → 1 ≤ rovers → rovers ≤ 64
    → is_session_after Bare (open_to (rovers + 1)) events ≡ true
    → is_session_after Bare (open_to (rovers + 1))
    (flat_map (λ j. round rovers (round_start seed j)) (range_with_len a count) ++ events) ≡ true
unfolding round
rounds_then seed rovers a zero events some few others = others
rounds_then seed rovers a (suc count) events some few others =
    let n = rovers + 1 in
    let state = round_start seed a in
    let rest = flat_map (λ j. round rovers (round_start seed j)) (range_with_len (a + 1) count) ++ events in
    let rover = drawn_below state (filling state + 2) rovers some in
    let budget = drawn_below state (filling state + 3) 16 (omega arith) in
    frame_then n state (Turn (rover_of rovers state) (budget_of state) ∷ rest) (omega arith)
    (turn_then n (rover_of rovers state) (budget_of state) rest (omega arith) (omega (arith, rover)) (omega arith)
    (omega arith) (omega (arith, budget))
    (rounds_then seed rovers (a + 1) count events some few others))

-- the last turns
turns_fit : (n a count : ℕ) → 1 ≤ a → a + count ≤ n + 1 → n ≤ 65
    → is_session_after Bare (open_to n) (map (λ k. Turn k 16) (range_with_len a count)) ≡ true
turns_fit n a zero least most small = refl
turns_fit n a (suc count) least most small =
    turn_then n a 16 (map (λ k. Turn k 16) (range_with_len (a + 1) count)) least (omega arith) small
    (omega arith) (omega arith) (turns_fit n (a + 1) count (omega arith) (omega arith) small)

-- the rovers that open
opens : (n : ℕ) → n ≤ 64 → may_open (open_to n) (n + 1) ≡ true
opens n few =
    and_from (not (is_among (n + 1) (range_with_len 1 n))) (nat_lt (length (range_with_len 1 n)) 256)
    (ap not (not_among (n + 1) 1 n (omega arith)))
    (lt-ltb (length (range_with_len 1 n)) 256 (omega (arith, length-range_with_len 1 n)))

opened_more : (n : ℕ) → opening (open_to n) (n + 1) ≡ open_to (n + 1)
opened_more n =
    let place : n + 1 ≡ 1 + n = omega arith in
    ap (λ (numbers : List ℕ). opened numbers)
    (ap (λ (k : ℕ). range_with_len 1 n ++ k ∷ []) place
    ∙ sym (range_more 1 n)
    ∙ ap (λ (k : ℕ). range_with_len 1 k) (sym (add-one n)))
  where
    opened : List ℕ → Numbers
    opened numbers = record { opened = numbers; closed = [] }

rovers_then : (n count : ℕ) (events : List Event) → n + count ≤ 65
    → is_session_after Bare (open_to (n + count)) events ≡ true
    → is_session_after Bare (open_to n) (map (λ k. Rover k (codes "A")) (range_with_len (n + 1) count) ++ events) ≡ true
rovers_then n zero events few others =
    let none : n + 0 ≡ n = omega arith in
    subst (λ (k : ℕ). is_session_after Bare (open_to k) events ≡ true) none others
rovers_then n (suc count) events few others =
    let rest = map (λ k. Rover k (codes "A")) (range_with_len (n + 1 + 1) count) ++ events in
    let last : n + suc count ≡ n + 1 + count = omega arith in
    goes_on (open_to n) (Rover (n + 1) (codes "A")) rest
    (and_from (is_connection (n + 1)) true (connection (n + 1) (omega arith) (omega arith)) refl)
    (opens n (omega arith))
    (subst (λ (numbers : Numbers). is_session_after Bare numbers rest ≡ true) (sym (opened_more n))
    (rovers_then (n + 1) count events (omega arith)
    (subst (λ (k : ℕ). is_session_after Bare (open_to k) events ≡ true) last others)))

pub made_is_session : (seed frames rovers : ℕ) → 1 ≤ rovers → rovers ≤ 64
    → is_session_after Bare no_numbers (events_of seed frames rovers) ≡ true
unfolding events_of
made_is_session seed frames rovers some few =
    let n = rovers + 1 in
    let behind = rounds seed frames rovers ++ last_turns rovers in
    let turns = turns_fit n 2 rovers (omega arith) (omega arith) (omega arith) in
    let later = rounds_then seed rovers 0 frames (last_turns rovers) some few turns in
    let same : n ≡ 1 + rovers = omega arith in
    let whole = rovers_then 1 rovers behind (omega arith)
    (subst (λ (k : ℕ). is_session_after Bare (open_to k) behind ≡ true) same later)
    in
    ap (λ (es : List Event). is_session_after Bare no_numbers es)
    (append_assoc (made.opening rovers) (rounds seed frames rovers) (last_turns rovers))
    ∙ goes_on no_numbers (Source 1 (codes "A"))
    (map (λ k. Rover k (codes "A")) (range_with_len 2 rovers) ++ behind) refl refl whole
