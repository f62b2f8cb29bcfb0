-- Running checksums over a buffer: how they grow, and what the checksum of a part is.
use Rattle.std.proofs.Common.{◌≡◌, ℕ, zero, suc, ◌+◌, ◌-◌, ◌≤◌, bit_xor, List, length, take, drop, get_or, ap, ap₂, ◌∙◌, sym, arith, length-drop, length-take-le}
use Rattle.std.proofs.lemmas.List.{get_or-drop}
use Rattle.rtcm_frame.specs.Crc.{crc24q_of}
use Rattle.rtcm_frame.specs.Bytewise.{after_byte, crc_on, moved}
use Rattle.rtcm_frame.specs.Sums.{Chained, AreSums}
use Rattle.rtcm_frame.proofs.LinearLemmas.{xor_back, crc_is, crc_on_from}
use Rattle.rtcm_frame.proofs.CrcLemmas.{crc_none, crc_more}

-- where nothing is summed the sums are what they like
pub chained_none : (buffer sums : List ℕ) (start end : ℕ) → end ≤ start → Chained buffer sums start end
chained_none buffer sums start end none = record { link = λ k from below. absurd (omega arith) }

-- the sums go on as the checksum does
chained_on : (buffer sums : List ℕ) (start n end : ℕ) → Chained buffer sums start end → start + n ≤ end
    → start + n ≤ length buffer
    → get_or sums (start + n) 0 ≡ crc_on (get_or sums start 0) (take n (drop start buffer))
chained_on buffer sums start zero end chained within fits =
    let here : start + 0 ≡ start = omega arith in
    ap (λ (k : ℕ). get_or sums k 0) here ∙ sym (crc_none (get_or sums start 0))
chained_on buffer sums start (suc n) end chained within fits =
    let next : start + suc n ≡ (start + n) + 1 = omega arith in
    let more : suc n ≡ n + 1 = omega arith in
    let left = drop start buffer in
    let first = get_or sums start 0 in
    ap (λ (k : ℕ). get_or sums k 0) next
    ∙ chained.link (start + n) (omega arith) (omega arith)
    ∙ ap₂ after_byte (chained_on buffer sums start n end chained (omega arith) (omega arith))
    (sym (get_or-drop start buffer n 0))
    ∙ sym (crc_more first left n (omega (arith, length-drop start buffer)))
    ∙ ap (λ (k : ℕ). crc_on first (take k left)) (sym more)

-- **the checksum of a part** from the sums at its two ends
pub part_is : (buffer sums : List ℕ) (start end summed : ℕ) → Chained buffer sums start summed → AreSums sums
    → start ≤ end → end ≤ summed → end ≤ length buffer
    → bit_xor (get_or sums end 0) (moved (end - start) (get_or sums start 0)) ≡ crc24q_of
    (take (end - start) (drop start buffer))
part_is buffer sums start end summed chained fits order within fits_too =
    let n = end - start in
    let part = take n (drop start buffer) in
    let first = get_or sums start 0 in
    let there : start + n ≡ end = omega arith in
    let long : length part ≡ n = length-take-le n (drop start buffer) (omega (arith, length-drop start buffer)) in
    let last : get_or sums end 0 ≡ bit_xor (moved n first) (crc_on 0 part) =
    ap (λ (k : ℕ). get_or sums k 0) (sym there)
    ∙ chained_on buffer sums start n summed chained (omega arith) (omega arith)
    ∙ crc_on_from part first (fits start)
    ∙ ap (λ (k : ℕ). bit_xor (moved k first) (crc_on 0 part)) long
    in
    ap (λ (v : ℕ). bit_xor v (moved n first)) last ∙ xor_back (moved n first) (crc_on 0 part) ∙ sym (crc_is part)
