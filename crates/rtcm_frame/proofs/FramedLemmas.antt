-- The frame of a payload.
use Rattle.std.proofs.Common.{◌≡◌, ℕ, suc, length-take-le, length-drop, ◌+◌, ◌-◌, ◌*◌, ◌/◌, ◌%◌, ◌<◌, Bool, true, false, nat_lt, if◌then◌else◌, Option, Some, None, ◌&&◌, ◌==◌, List, [], ◌∷◌, ◌++◌, length, take, drop, get_or, IsTrue, refl, ap, ap₂, ◌∙◌, sym, arith, length-append, eq-eqb}
use Rattle.std.proofs.lemmas.List.{get_or-append-add, take-append-drop, get_or-drop}
use Rattle.std.proofs.lemmas.Bool.Decides.{nat_tests}
use Rattle.std.specs.List.{All}
use Rattle.rtcm_frame.proofs.FrameLemmas.{frame_least, frame_claim, frame_preamble, frame_checksum}
use Rattle.std.proofs.Math.Seq.{take-append_seam}
use Rattle.rtcm_frame.specs.Crc.{crc24q_of}
use Rattle.rtcm_frame.specs.Transport.{frame_length, checksum, is_frame, payload, first_twelve_bits, number_of, three_bytes, unchecked, framed}

-- three bytes hold the number that they were made of
three_bytes_hold : (n : ℕ) → n / 65536 * 65536 + n / 256 % 256 * 256 + n % 256 ≡ n
three_bytes_hold n = omega arith

-- the ten low bits of the header's two bytes are the payload's length
length_bits : (reserved n : ℕ) → n < 1024 → ((reserved * 4 + n / 256) * 256 + n % 256) % 1024 ≡ n
length_bits reserved n fits = omega arith

-- a frame of a payload is one
pub framed_is_frame : (reserved : ℕ) (content : List ℕ) → length content < 1024
    → IsTrue (is_frame (framed reserved content))
unfolding is_frame
framed_is_frame reserved content fits =
    let body = unchecked reserved content in
    let crc = crc24q_of body in
    let tail = three_bytes crc in
    let whole = body ++ tail in
    let length_whole : length whole ≡ length content + 6 = omega (arith, length-append body tail) in
    let claim = length_bits reserved (length content) fits in
    let right_length : (length whole == frame_length whole) ≡ true =
    eq-eqb _ _ (omega (arith, length_whole, claim))
    in
    let before : length whole - 3 ≡ length body = omega (arith, length_whole) in
    let message : take (length whole - 3) whole ≡ body =
    ap (λ (n : ℕ). take n whole) before ∙ take-append_seam body tail
    in
    let first : get_or whole (length whole - 3) 0 ≡ crc / 65536 =
    ap (λ (n : ℕ). get_or whole n 0) (omega (arith, length_whole)) ∙ get_or-append-add body tail 0 0
    in
    let second : get_or whole (length whole - 2) 0 ≡ crc / 256 % 256 =
    ap (λ (n : ℕ). get_or whole n 0) (omega (arith, length_whole)) ∙ get_or-append-add body tail 1 0
    in
    let third : get_or whole (length whole - 1) 0 ≡ crc % 256 =
    ap (λ (n : ℕ). get_or whole n 0) (omega (arith, length_whole)) ∙ get_or-append-add body tail 2 0
    in
    let stored : checksum whole ≡ crc = omega (arith, first, second, third, three_bytes_hold crc) in
    let right_checksum : (crc24q_of (take (length whole - 3) whole) == checksum whole) ≡ true =
    eq-eqb _ _ (ap crc24q_of message ∙ sym stored)
    in
    ap₂ (λ (a b : Bool). true && a && b) right_length right_checksum

-- its payload is the one that it was made of
pub framed_payload : (reserved : ℕ) (content : List ℕ) → payload (framed reserved content) ≡ content
framed_payload reserved content =
    let tail = three_bytes (crc24q_of (unchecked reserved content)) in
    let count : length (framed reserved content) - 6 ≡ length content =
    omega (arith, length-append (unchecked reserved content) tail)
    in
    ap (λ (n : ℕ). take n (content ++ tail)) count ∙ take-append_seam content tail

-- three items, one by one
three_items : (xs : List ℕ) → length xs ≡ 3 → xs ≡ get_or xs 0 0 ∷ get_or xs 1 0 ∷ get_or xs 2 0 ∷ []
three_items [] three = absurd (omega arith)
three_items (x ∷ []) three = absurd (omega arith)
three_items (x ∷ (y ∷ [])) three = absurd (omega arith)
three_items (x ∷ (y ∷ (z ∷ []))) three = refl
three_items (x ∷ (y ∷ (z ∷ (w ∷ t)))) three = absurd (omega arith)

-- three bytes are those of the number that they hold
held_bytes : (x y z n : ℕ) → x < 256 → y < 256 → z < 256 → n ≡ x * 65536 + y * 256 + z
    → x ∷ y ∷ z ∷ [] ≡ three_bytes n
held_bytes x y z n x_fits y_fits z_fits held =
    let first : x ≡ n / 65536 = omega arith in
    let second : y ≡ n / 256 % 256 = omega arith in
    let third : z ≡ n % 256 = omega arith in
    ap₂ ◌∷◌ first (ap₂ ◌∷◌ second (ap (λ (k : ℕ). k ∷ []) third))

-- the header's bytes behind the preamble are those of the reserved bits and the length
header_bytes : (b c m : ℕ) → b < 256 → c < 256 → m ≡ (b * 256 + c) % 1024
    → (b ≡ b / 4 * 4 + m / 256) × (c ≡ m % 256)
header_bytes b c m b_fits c_fits bits = (omega arith, omega arith)

-- a frame of bytes is made of its reserved bits and its payload
pub framed_of_frame : (frame : List ℕ) → All (λ byte. byte < 256) frame → IsTrue (is_frame frame)
    → frame ≡ framed (get_or frame 1 0 / 4) (payload frame)
framed_of_frame [] bytes valid = absurd (omega (arith, frame_least [] valid))
framed_of_frame (a ∷ []) bytes valid = absurd (omega (arith, frame_least (a ∷ []) valid))
framed_of_frame (a ∷ (b ∷ [])) bytes valid = absurd (omega (arith, frame_least (a ∷ b ∷ []) valid))
framed_of_frame (a ∷ (b ∷ (c ∷ rest))) bytes valid =
    let frame = a ∷ b ∷ c ∷ rest in
    let n = length frame in
    let least = frame_least frame valid in
    let claim = frame_claim frame valid in
    let content = payload frame in
    let m = n - 6 in
    let tail = drop m rest in
    let length_content : length content ≡ m = length-take-le m rest (omega arith) in
    let length_tail : length tail ≡ 3 = omega (arith, length-drop m rest) in
    let header = header_bytes b c m (bytes 1 0 (omega arith)) (bytes 2 0 (omega arith)) (omega arith) in
    let high : b ≡ b / 4 * 4 + length content / 256 = header.0 ∙ ap (λ (k : ℕ). b / 4 * 4 + k / 256)
    (sym length_content) in
    let low : c ≡ length content % 256 = header.1 ∙ ap (λ (k : ℕ). k % 256) (sym length_content) in
    let body : a ∷ b ∷ c ∷ content ≡ unchecked (b / 4) content =
    ap₂ ◌∷◌ (frame_preamble frame valid) (ap₂ ◌∷◌ high (ap (λ (k : ℕ). k ∷ content) low))
    in
    let joined : frame ≡ (a ∷ b ∷ c ∷ content) ++ tail =
    ap (λ (xs : List ℕ). a ∷ b ∷ c ∷ xs) (sym (take-append-drop m rest))
    in
    let count : n - 3 ≡ suc (suc (suc m)) = omega arith in
    let message : take (n - 3) frame ≡ a ∷ b ∷ c ∷ content = ap (λ (k : ℕ). take k frame) count in
    let first : get_or frame (n - 3) 0 ≡ get_or tail 0 0 =
    ap (λ (k : ℕ). get_or frame k 0) (place 0 3 (omega arith)) ∙ sym (get_or-drop m rest 0 0)
    in
    let second : get_or frame (n - 2) 0 ≡ get_or tail 1 0 =
    ap (λ (k : ℕ). get_or frame k 0) (place 1 2 (omega arith)) ∙ sym (get_or-drop m rest 1 0)
    in
    let third : get_or frame (n - 1) 0 ≡ get_or tail 2 0 =
    ap (λ (k : ℕ). get_or frame k 0) (place 2 1 (omega arith)) ∙ sym (get_or-drop m rest 2 0)
    in
    let stored : crc24q_of (a ∷ b ∷ c ∷ content) ≡ get_or tail 0 0 * 65536 + get_or tail 1 0 * 256 + get_or tail 2 0 =
    ap crc24q_of (sym message)
    ∙ frame_checksum frame valid
    ∙ ap₂ (λ (x y : ℕ). x * 65536 + y * 256 + get_or frame (n - 1) 0) first second
    ∙ ap (λ (z : ℕ). get_or tail 0 0 * 65536 + get_or tail 1 0 * 256 + z) third
    in
    let fits : (k : ℕ) → k < n → get_or frame k 0 < 256 = λ k below. bytes k 0 below in
    let signed : tail ≡ three_bytes (crc24q_of (a ∷ b ∷ c ∷ content)) =
    three_items tail length_tail ∙ held_bytes
    (get_or tail 0 0)
    (get_or tail 1 0)
    (get_or tail 2 0)
    (crc24q_of (a ∷ b ∷ c ∷ content))
    (omega (arith, first, fits (n - 3) (omega arith)))
    (omega (arith, second, fits (n - 2) (omega arith)))
    (omega (arith, third, fits (n - 1) (omega arith)))
    stored
    in
    joined
    ∙ ap (λ (xs : List ℕ). (a ∷ b ∷ c ∷ content) ++ xs) signed
    ∙ ap (λ (xs : List ℕ). xs ++ three_bytes (crc24q_of xs)) body
  where
    -- a place from the end, counted from the fourth byte
    place : (k from_end : ℕ) → k + from_end ≡ 3
        → length (a ∷ b ∷ c ∷ rest) - from_end ≡ suc (suc (suc (length (a ∷ b ∷ c ∷ rest) - 6 + k)))
    place k from_end three = omega (arith, frame_least (a ∷ b ∷ c ∷ rest) valid)

-- the number of a payload's frame, where it has one
number_in : List ℕ → Option ℕ
number_in content = if nat_lt (length content) 2 then None else Some (first_twelve_bits content)

-- the frame of a payload has that payload's number
framed_number : (reserved : ℕ) (content : List ℕ) → number_of (framed reserved content) ≡ number_in content
unfolding number_of number_in
framed_number reserved content = ap number_in (framed_payload reserved content)

-- two bytes or more give their first twelve bits
pub framed_some : (reserved a b : ℕ) (behind : List ℕ)
    → number_of (framed reserved (a ∷ b ∷ behind)) ≡ Some (a * 16 + b / 16)
unfolding number_in
framed_some reserved a b behind =
    let long : nat_lt (length (a ∷ b ∷ behind)) 2 ≡ false = grind (arith, nat_tests) in
    framed_number reserved (a ∷ b ∷ behind)
    ∙ ap (λ (short : Bool). if short then None else Some (a * 16 + b / 16)) long

-- fewer give none
pub framed_none : (reserved : ℕ) (content : List ℕ) → length content < 2 → number_of (framed reserved content) ≡ None
unfolding number_in
framed_none reserved content few =
    let short : nat_lt (length content) 2 ≡ true = grind (arith, nat_tests) in
    framed_number reserved content
    ∙ ap (λ (test : Bool). if test then None else Some (first_twelve_bits content)) short
