-- The frame of a round: its bytes, its length and its number.
use Rattle.std.proofs.Common.{◌≡◌, ℕ, zero, suc, ◌+◌, ◌*◌, ◌/◌, ◌%◌, ◌^◌, ◌<◌, ◌≤◌, Bool, true, List, [], ◌∷◌, map, length, refl, ap, subst, sym, ◌∙◌, arith, length-append}
use Rattle.std.specs.Prelude.{nat_lt, IsTrue, Some}
use Rattle.std.specs.List.{list_all, range_with_len}
use Rattle.std.proofs.Math.Nat.{mod-lt}
use Rattle.std.proofs.lemmas.Bool.{and_from, lt-ltb}
use Rattle.std.proofs.lemmas.List.Folds.{list_all-append}
use Rattle.std.proofs.lemmas.List.FromFn.{length-map-range_with_len}
use Rattle.rtcm_frame.specs.Crc.{crc24q_of}
use Rattle.rtcm_frame.specs.Transport.{is_frame, number_of, unchecked, three_bytes, framed}
use Rattle.rtcm_frame.proofs.LinearLemmas.{crc_fits, crc_is}
use Rattle.rtcm_frame.proofs.FramedLemmas.{framed_is_frame, framed_some}
use Rattle.session_make.specs.Draws.{number_below, state_after, drawn}
use Rattle.session_make.specs.Rounds.{filling, message_number, payload_of, frame_of}

pub drawn_below : (state i bound : ℕ) → 0 < bound → drawn state i bound < bound
unfolding number_below
drawn_below state i bound some = mod-lt (state_after (i + 1) state / 2 ^ 33) some

pub numbers_within : (state : ℕ) → (1001 ≤ message_number state) × (message_number state ≤ 1229)
numbers_within state =
    let below = drawn_below state 1 229 (omega arith) in
    (omega arith, omega (arith, below))

abbrev are_bytes : List ℕ → Bool
are_bytes xs = list_all (λ b. nat_lt b 256) xs

byte_then : (b : ℕ) (xs : List ℕ) → b < 256 → are_bytes xs ≡ true → are_bytes (b ∷ xs) ≡ true
byte_then b xs fits others = and_from (nat_lt b 256) (are_bytes xs) (lt-ltb b 256 fits) others

drawn_are_bytes : (state a n : ℕ) → are_bytes (map (λ i. drawn state i 256) (range_with_len a n)) ≡ true
drawn_are_bytes state a zero = refl
drawn_are_bytes state a (suc n) =
    byte_then (drawn state a 256) (map (λ i. drawn state i 256) (range_with_len (a + 1) n))
    (drawn_below state a 256 (omega arith)) (drawn_are_bytes state (a + 1) n)

payload_is_bytes : (state : ℕ) → are_bytes (payload_of state) ≡ true
payload_is_bytes state =
    let number = numbers_within state in
    let drew = map (λ i. drawn state i 256) (range_with_len 2 (filling state)) in
    byte_then (message_number state / 16) ((message_number state % 16 * 16) ∷ drew) (omega (arith, number.1))
    (byte_then (message_number state % 16 * 16) drew (omega arith) (drawn_are_bytes state 2 (filling state)))

pub payload_within : (state : ℕ) → (2 ≤ length (payload_of state)) × (length (payload_of state) ≤ 100)
payload_within state =
    let all = length-map-range_with_len (λ i. drawn state i 256) 2 (filling state) in
    let below = drawn_below state 0 99 (omega arith) in
    (omega (arith, all), omega (arith, all, below))

checksum_is_bytes : (crc : ℕ) → crc < 2 ^ 24 → are_bytes (three_bytes crc) ≡ true
checksum_is_bytes crc fits =
    byte_then (crc / 65536) ((crc / 256 % 256) ∷ (crc % 256) ∷ []) (omega (arith, fits))
    (byte_then (crc / 256 % 256) ((crc % 256) ∷ []) (omega arith) (byte_then (crc % 256) [] (omega arith) refl))

crc_within : (bytes : List ℕ) → crc24q_of bytes < 2 ^ 24
crc_within bytes = subst (λ (n : ℕ). n < 2 ^ 24) (sym (crc_is bytes)) (crc_fits bytes 0 (omega arith))

framed_is_bytes : (content : List ℕ) → length content < 1024 → are_bytes content ≡ true
    → are_bytes (framed 0 content) ≡ true
framed_is_bytes content short all =
    let body = unchecked 0 content in
    let header : are_bytes body ≡ true =
    byte_then 0xD3 ((0 * 4 + length content / 256) ∷ (length content % 256) ∷ content) (omega arith)
    (byte_then (0 * 4 + length content / 256) ((length content % 256) ∷ content) (omega arith)
    (byte_then (length content % 256) content (omega arith) all))
    in
    list_all-append (λ b. nat_lt b 256) body (three_bytes (crc24q_of body))
    ∙ and_from (are_bytes body) (are_bytes (three_bytes (crc24q_of body))) header
    (checksum_is_bytes (crc24q_of body) (crc_within body))

pub frame_is_bytes : (state : ℕ) → list_all (λ b. nat_lt b 256) (frame_of state) ≡ true
frame_is_bytes state =
    let within = payload_within state in
    framed_is_bytes (payload_of state) (omega (arith, within.1)) (payload_is_bytes state)

pub frame_within : (state : ℕ) → (8 ≤ length (frame_of state)) × (length (frame_of state) ≤ 106)
frame_within state =
    let within = payload_within state in
    let body = unchecked 0 (payload_of state) in
    let all : length (frame_of state) ≡ length body + 3 = length-append body (three_bytes (crc24q_of body)) in
    (omega (arith, all, within.0), omega (arith, all, within.1))

pub frame_is_whole : (state : ℕ) → IsTrue (is_frame (frame_of state))
frame_is_whole state =
    let within = payload_within state in framed_is_frame 0 (payload_of state) (omega (arith, within.1))

pub frame_has_number : (state : ℕ) → number_of (frame_of state) ≡ Some (message_number state)
frame_has_number state =
    let n = message_number state in
    let whole : n / 16 * 16 + n % 16 * 16 / 16 ≡ n = omega arith in
    framed_some 0 (n / 16) (n % 16 * 16) (map (λ i. drawn state i 256) (range_with_len 2 (filling state)))
    ∙ ap (λ (k : ℕ). Some k) whole
