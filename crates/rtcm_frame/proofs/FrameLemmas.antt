-- What the bytes of a frame are known to be.
use Rattle.std.proofs.Common.{◌≡◌, ℕ, ◌+◌, ◌-◌, ◌≤◌, false, ◌<◌, List, ◌++◌, length, get_or, take, drop, replicate, IsTrue, arith, ap, ap₂, ◌∙◌, sym, length-append, length-take-le, subst}
use Rattle.std.proofs.lemmas.Bool.Decides.{nat_tests}
use Rattle.std.proofs.lemmas.List.{drop-drop, drop-replicate, length-replicate, replicate-append-replicate}
use Rattle.std.proofs.Math.Seq.{take-append_seam, drop-append_seam}
use Rattle.rtcm_frame.specs.declared.framing.Frame.TheInside.{Inside}
use Rattle.rtcm_frame.specs.Crc.{crc24q_of}
use Rattle.rtcm_frame.specs.Transport.{preamble, longest, frame_length, checksum, is_frame}
use Rattle.rtcm_frame.specs.Padded.{IsPadded}

-- a frame has the length that it claims
pub frame_claim : (bytes : List ℕ) → IsTrue (is_frame bytes) → length bytes ≡ frame_length bytes
unfolding is_frame
frame_claim bytes valid = grind (arith, nat_tests)

-- a frame begins with the preamble
pub frame_preamble : (bytes : List ℕ) → IsTrue (is_frame bytes) → get_or bytes 0 0 ≡ preamble
unfolding is_frame
frame_preamble bytes valid = grind (arith, nat_tests)

-- a frame ends with the checksum of what is before
pub frame_checksum : (bytes : List ℕ) → IsTrue (is_frame bytes)
    → crc24q_of (take (length bytes - 3) bytes) ≡ checksum bytes
unfolding is_frame
frame_checksum bytes valid = grind (arith, nat_tests)

-- a frame has at least six bytes
pub frame_least : (bytes : List ℕ) → IsTrue (is_frame bytes) → 6 ≤ length bytes
frame_least bytes valid = omega (arith, frame_claim bytes valid)

-- fewer are none
pub shorter_is_none : (bytes : List ℕ) → length bytes < 6 → is_frame bytes ≡ false
unfolding is_frame
shorter_is_none bytes short = grind (arith, nat_tests)

-- a frame has at most 1,029 bytes
pub frame_most : (bytes : List ℕ) → IsTrue (is_frame bytes) → length bytes ≤ longest
frame_most bytes valid = omega (arith, frame_claim bytes valid)

-- both bounds of a frame's length
pub frame_bounds : (bytes : List ℕ) → IsTrue (is_frame bytes) → (6 ≤ length bytes) × (length bytes ≤ longest)
frame_bounds bytes valid = (frame_least bytes valid, frame_most bytes valid)

-- a frame that was written over a buffer with zeros behind it is padded
pub frame_padded_over : (bytes all before : List ℕ) → IsTrue (is_frame bytes)
    → drop (length bytes) before ≡ replicate (longest - length bytes) 0
    → all ≡ bytes ++ drop (length bytes) before
    → IsPadded record { bytes = all; len = length bytes }
frame_padded_over bytes all before valid padding written =
    let zeros = drop (length bytes) before in
    let most = frame_most bytes valid in
    let front : take (length bytes) all ≡ bytes =
    ap (λ (xs : List ℕ). take (length bytes) xs) written ∙ take-append_seam bytes zeros
    in
    let behind : drop (length bytes) all ≡ zeros =
    ap (λ (xs : List ℕ). drop (length bytes) xs) written ∙ drop-append_seam bytes zeros
    in
    let length_zeros : length zeros ≡ longest - length bytes =
    ap (λ (xs : List ℕ). length xs) padding ∙ length-replicate (longest - length bytes) 0
    in
    record {
      size = ap (λ (xs : List ℕ). length xs) written ∙ length-append bytes zeros ∙ omega arith;
      within = most;
      valid = subst (λ (xs : List ℕ). IsTrue (is_frame xs)) (sym front) valid;
      zeros = behind ∙ padding;
    }

-- so is one that was written over a buffer of zeros
pub frame_padded : (bytes all : List ℕ) → IsTrue (is_frame bytes)
    → all ≡ bytes ++ drop (length bytes) (replicate longest 0)
    → IsPadded record { bytes = all; len = length bytes }
frame_padded bytes all valid written =
    frame_padded_over bytes all (replicate longest 0) valid (drop-replicate (length bytes) longest 0) written

-- so is one that was written over another, behind which nothing but zeros was left
pub frame_padded_again : (f : Inside) (bytes cleared all : List ℕ) (from : ℕ) → IsPadded f
    → IsTrue (is_frame bytes) → from ≤ length bytes → from ≤ f.len
    → cleared ≡ take from f.bytes ++ (replicate (f.len - from) 0 ++ drop f.len f.bytes)
    → all ≡ bytes ++ drop (length bytes) cleared
    → IsPadded record { bytes = all; len = length bytes }
frame_padded_again f bytes cleared all from h valid few held is written =
    frame_padded_over bytes all cleared valid
    (ap (λ (n : ℕ). drop n cleared) (sym whole) ∙ sym (drop-drop (length bytes - from) from cleared)
    ∙ ap (λ (xs : List ℕ). drop (length bytes - from) xs) behind
    ∙ drop-replicate (length bytes - from) (longest - from) 0 ∙ ap (λ (n : ℕ). replicate n 0) left)
    written
  where
    whole : from + (length bytes - from) ≡ length bytes
    whole = omega arith

    left : longest - from - (length bytes - from) ≡ longest - length bytes
    left = omega (arith, few)

    front : length (take from f.bytes) ≡ from
    front = length-take-le from f.bytes (omega (arith, h.size, h.within, held))

    joined : replicate (f.len - from) 0 ++ drop f.len f.bytes ≡ replicate (longest - from) 0
    joined =
        ap (λ (xs : List ℕ). replicate (f.len - from) 0 ++ xs) h.zeros
        ∙ replicate-append-replicate (f.len - from) (longest - f.len) 0
        ∙ ap (λ (n : ℕ). replicate n 0) (omega (arith, h.within, held))

    behind : drop from cleared ≡ replicate (longest - from) 0
    behind =
        ap₂ (λ (n : ℕ) (xs : List ℕ). drop n xs) (sym front) is
        ∙ drop-append_seam (take from f.bytes) _ ∙ joined
