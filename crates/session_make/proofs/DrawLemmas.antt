-- The draws of a payload, one by one.
use Rattle.std.proofs.Common.{◌≡◌, ℕ, ◌+◌, ◌*◌, ◌/◌, ◌%◌, ◌<◌, ◌≤◌, List, [], ◌∷◌, ◌++◌, map, length, ap, ap₂, sym, ◌∙◌, arith, add-one}
use Rattle.std.specs.List.{range_with_len}
use Rattle.std.proofs.lemmas.List.FromFn.{map-range_with_len_more, length-map-range_with_len}
use Rattle.session_make.specs.Draws.{next_state, state_after, number_below, drawn}
use Rattle.session_make.specs.Rounds.{filling, message_number, payload_of}

state_more : (n state : ℕ) → state_after (n + 1) state ≡ next_state (state_after n state)
unfolding state_after
state_more n state = ap (λ (k : ℕ). state_after k state) (add-one n)

-- one draw more
pub state_on : (n m state now then : ℕ) → now ≡ state_after n state → then ≡ next_state now → m ≡ n + 1
    → then ≡ state_after m state
state_on n m state now then is next more =
    next ∙ ap next_state is ∙ sym (state_more n state) ∙ ap (λ (k : ℕ). state_after k state) (sym more)

-- the first draw
pub state_first : (state then : ℕ) → then ≡ next_state state → then ≡ state_after 1 state
unfolding state_after
state_first state then next = next

-- a payload's first bytes, and the draws behind them
abbrev pub drawn_bytes : ℕ → ℕ → ℕ → List ℕ
drawn_bytes number state n =
    (number / 16) ∷ (number % 16 * 16) ∷ map (λ i. drawn state i 256) (range_with_len 2 n)

-- one byte more
pub bytes_more : (number state n byte now : ℕ) (payload : List ℕ) → payload ≡ drawn_bytes number state n
    → byte ≡ number_below 256 now → now ≡ state_after (n + 2 + 1) state
    → payload ++ byte ∷ [] ≡ drawn_bytes number state (n + 1)
bytes_more number state n byte now payload is draw at =
    let place : 2 + n ≡ n + 2 = omega arith in
    let last : byte ≡ drawn state (n + 2) 256 = draw ∙ ap (λ (s : ℕ). number_below 256 s) at in
    ap₂ (λ (xs : List ℕ) (b : ℕ). xs ++ b ∷ []) is last
    ∙ ap (λ (xs : List ℕ). (number / 16) ∷ (number % 16 * 16) ∷ xs)
    (sym (map-range_with_len_more (λ i. drawn state i 256) 2 n (n + 2) place))

pub bytes_whole : (number state n : ℕ) (payload : List ℕ) → payload ≡ drawn_bytes number state n
    → number ≡ message_number state → n ≡ filling state → payload ≡ payload_of state
bytes_whole number state n payload is numbered all =
    is ∙ ap₂ (λ (a b : ℕ). drawn_bytes a state b) numbered all

pub bytes_length : (number state n : ℕ) (payload : List ℕ) → payload ≡ drawn_bytes number state n → n < 99
    → length payload ≤ 100
bytes_length number state n payload is fits =
    let whole : length payload ≡ length (drawn_bytes number state n) = ap (λ (xs : List ℕ). length xs) is in
    omega (arith, whole, length-map-range_with_len (λ i. drawn state i 256) 2 n)
