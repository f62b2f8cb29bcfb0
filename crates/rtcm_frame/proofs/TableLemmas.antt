-- What the tables hold, and how the checksum is read from them.
use Rattle.std.proofs.Common.{◌≡◌, ℕ, zero, suc, ◌+◌, ◌*◌, ◌/◌, ◌%◌, ◌^◌, ◌≤◌, ◌<◌, true, List, [], ◌∷◌, length, take, drop, get_or, ap, ap₂, ◌∙◌, sym, subst, arith, length-drop, length-take-le}
use Rattle.std.proofs.lemmas.Bool.Decides.{nat_tests}
use Rattle.std.proofs.lemmas.List.{get_or-drop, get_or-take}
use Rattle.rtcm_frame.specs.Bytewise.{moved, row}
use Rattle.rtcm_frame.specs.declared.tables.rows.TheConstants.{ROWS}
use Rattle.rtcm_frame.specs.declared.tables.shifts.TheConstants.{NEAR, FAR}
use Rattle.rtcm_frame.proofs.TableFacts.{agree, follow, row_entry, rows_agree, digit_entry, near_digits, near_follow, far_digits, far_follow}
use Rattle.rtcm_frame.proofs.LinearLemmas.{moved_fits, byte_fits, moved_add}

-- ---- a table of a function's values

pub agree_at : (f : ℕ → ℕ) (xs : List ℕ) (i k : ℕ) → agree f i xs ≡ true → k < length xs → get_or xs k 0 ≡ f (i + k)
unfolding agree
agree_at f [] i k all below = absurd (omega arith)
agree_at f (x ∷ xs) i zero all below =
    let first : x ≡ f i = grind (arith, nat_tests) in
    let here : i ≡ i + 0 = omega arith in
    first ∙ ap f here
agree_at f (x ∷ xs) i (suc k) all below =
    let others : agree f (suc i) xs ≡ true = grind (arith, nat_tests) in
    let there : suc i + k ≡ i + suc k = omega arith in
    agree_at f xs (suc i) k others (omega arith) ∙ ap f there

pub follow_at : (m : ℕ) (xs ys : List ℕ) (k : ℕ) → follow m xs ys ≡ true → k < length ys
    → get_or ys k 0 ≡ moved m (get_or xs k 0)
unfolding follow
follow_at m xs [] k all below = absurd (omega arith)
follow_at m [] (y ∷ ys) k all below = absurd (grind (arith, nat_tests))
follow_at m (x ∷ xs) (y ∷ ys) zero all below = grind (arith, nat_tests)
follow_at m (x ∷ xs) (y ∷ ys) (suc k) all below =
    let others : follow m xs ys ≡ true = grind (arith, nat_tests) in
    follow_at m xs ys k others (omega arith)

-- ---- single bytes

pub row_at : (zeros byte : ℕ) → zeros < 8 → byte < 256 → get_or ROWS (zeros * 256 + byte) 0 ≡ moved zeros (row byte)
row_at zeros byte few fits =
    let i = zeros * 256 + byte in
    let high : i / 256 ≡ zeros = omega arith in
    let low : i % 256 ≡ byte = omega arith in
    let here : 0 + i ≡ i = omega arith in
    agree_at row_entry ROWS 0 i rows_agree (omega arith)
    ∙ ap row_entry here
    ∙ ap₂ (λ (x y : ℕ). moved x (row y)) high low

-- ---- digits of a register

-- a table whose first 96 are the digits, and the others are moved on by m from 96 to 96
shift_at : (m : ℕ) (table : List ℕ) (n j : ℕ) → agree digit_entry 0 (take 96 table) ≡ true
    → follow m table (drop 96 table) ≡ true → 96 ≤ length table → j < 96 → n * 96 + j < length table
    → get_or table (n * 96 + j) 0 ≡ moved (m * n) (digit_entry j)
unfolding moved
shift_at m table zero j digits follows some below within =
    let here : 0 * 96 + j ≡ j = omega arith in
    let still : 0 + j ≡ j = omega arith in
    let none : m * 0 ≡ 0 = omega arith in
    ap (λ (k : ℕ). get_or table k 0) here
    ∙ sym (get_or-take 96 table j 0 below)
    ∙ agree_at digit_entry (take 96 table) 0 j digits (omega (arith, length_taken table some))
    ∙ ap digit_entry still
    ∙ ap (λ (k : ℕ). moved k (digit_entry j)) (sym none)
  where
    length_taken : (xs : List ℕ) → 96 ≤ length xs → length (take 96 xs) ≡ 96
    length_taken xs long = length-take-le 96 xs long
shift_at m table (suc n) j digits follows some below within =
    let there : suc n * 96 + j ≡ 96 + (n * 96 + j) = omega arith in
    let one_more : m * n + m ≡ m * suc n = omega arith in
    ap (λ (k : ℕ). get_or table k 0) there
    ∙ sym (get_or-drop 96 table (n * 96 + j) 0)
    ∙ follow_at m table (drop 96 table) (n * 96 + j) follows (omega (arith, length-drop 96 table))
    ∙ ap (moved m) (shift_at m table n j digits follows some below (omega arith))
    ∙ sym (moved_add (m * n) m (digit_entry j))
    ∙ ap (λ (k : ℕ). moved k (digit_entry j)) one_more

-- a digit's number gives the digit at its place
digit_is : (place digit : ℕ) → digit < 16 → digit_entry (place * 16 + digit) ≡ digit * 2 ^ (4 * place)
digit_is place digit fits =
    let low : (place * 16 + digit) % 16 ≡ digit = omega arith in
    let high : (place * 16 + digit) / 16 ≡ place = omega arith in
    ap₂ (λ (x y : ℕ). x * 2 ^ (4 * y)) low high

pub near_at : (zeros place digit : ℕ) → zeros < 32 → place < 6 → digit < 16
    → get_or NEAR (zeros * 96 + (place * 16 + digit)) 0 ≡ moved zeros (digit * 2 ^ (4 * place))
near_at zeros place digit few low fits =
    let once : 1 * zeros ≡ zeros = omega arith in
    shift_at 1 NEAR zeros (place * 16 + digit) near_digits near_follow (omega arith) (omega arith) (omega arith)
    ∙ ap₂ moved once (digit_is place digit fits)

pub far_at : (steps place digit : ℕ) → steps < 33 → place < 6 → digit < 16
    → get_or FAR (steps * 96 + (place * 16 + digit)) 0 ≡ moved (32 * steps) (digit * 2 ^ (4 * place))
far_at steps place digit few low fits =
    shift_at 32 FAR steps (place * 16 + digit) far_digits far_follow (omega arith) (omega arith) (omega arith)
    ∙ ap (moved (32 * steps)) (digit_is place digit fits)

-- ---- entries have 24 bits

pub row_below : (zeros byte : ℕ) → zeros < 8 → byte < 256 → get_or ROWS (zeros * 256 + byte) 0 < 2 ^ 24
unfolding row
row_below zeros byte few fits =
    subst (λ (x : ℕ). x < 2 ^ 24) (sym (row_at zeros byte few fits)) (moved_fits zeros (row byte) (byte_fits 0 byte))

-- a digit at its place has 24 bits
digit_fits : (place digit : ℕ) → place < 6 → digit < 16 → digit * 2 ^ (4 * place) < 2 ^ 24
digit_fits zero digit low fits = omega arith
digit_fits (suc zero) digit low fits = omega arith
digit_fits (suc (suc zero)) digit low fits = omega arith
digit_fits (suc (suc (suc zero))) digit low fits = omega arith
digit_fits (suc (suc (suc (suc zero)))) digit low fits = omega arith
digit_fits (suc (suc (suc (suc (suc zero))))) digit low fits = omega arith
digit_fits (suc (suc (suc (suc (suc (suc n)))))) digit low fits = absurd (omega arith)

pub near_below : (zeros place digit : ℕ) → zeros < 32 → place < 6 → digit < 16
    → get_or NEAR (zeros * 96 + (place * 16 + digit)) 0 < 2 ^ 24
near_below zeros place digit few low fits =
    subst (λ (x : ℕ). x < 2 ^ 24) (sym (near_at zeros place digit few low fits))
    (moved_fits zeros _ (digit_fits place digit low fits))

pub far_below : (steps place digit : ℕ) → steps < 33 → place < 6 → digit < 16
    → get_or FAR (steps * 96 + (place * 16 + digit)) 0 < 2 ^ 24
far_below steps place digit few low fits =
    subst (λ (x : ℕ). x < 2 ^ 24) (sym (far_at steps place digit few low fits))
    (moved_fits (32 * steps) _ (digit_fits place digit low fits))
