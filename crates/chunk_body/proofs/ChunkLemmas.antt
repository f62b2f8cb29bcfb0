-- Chunks as they are written.
use Rattle.std.proofs.Common.{◌≡◌, ℕ, zero, suc, ◌+◌, ◌*◌, ◌/◌, ◌%◌, ◌^◌, ◌<◌, ◌≤◌, false, eqb, IsTrue, List, [], ◌∷◌, ◌++◌, length, refl, ap, ◌∙◌, sym, subst, arith, append_assoc, length-append}
use Rattle.std.specs.Fmt.{digits, digits_onto, digit_glyph}
use Rattle.std.specs.List.{All, concat, flat_map}
use Rattle.std.proofs.lemmas.Fmt.{digits_is_IsNumeral}
use Rattle.std.proofs.lemmas.Grind.{pow_more}
use Rattle.std.proofs.lemmas.Bool.{cond_both, eqb-false}
use Rattle.std.proofs.lemmas.List.{append-nil}
use Rattle.std.proofs.lemmas.List.Elements.{All-head, All-tail}
use Rattle.rtcm_frame.specs.Transport.{is_frame}
use Rattle.rtcm_frame.proofs.FrameLemmas.{frame_bounds}
use Rattle.chunk_body.specs.declared.phase.Phase.TheVariants.{Ended, Broken}
use Rattle.chunk_body.specs.Body.{line_end, Chunk, print_chunk, IsChunk}
use Rattle.chunk_body.specs.Text.{BodyText, IsOpen, IsPlain}
use Rattle.chunk_body.specs.Written.{chunk_of}
use Rattle.chunk_body.proofs.Machines.{start, Goes, goes_append}
use Rattle.chunk_body.proofs.PrintLemmas.{goes_chunk}
use Rattle.chunk_body.proofs.TextLemmas.{open_at, body_goes, ended_body}
use Rattle.chunk_body.proofs.PlainLemmas.{plain_is}
use Rattle.chunk_body.proofs.RestLemmas.{ending, shortest}

-- a number below a power of 16 has at most so many digits
digits_onto_short : (k j n : ℕ) (acc : List ℕ) → n < 16 ^ suc j
    → length (digits_onto k 16 false n acc) ≤ suc j + length acc
digits_onto_short zero j n acc below = omega arith
digits_onto_short (suc k) zero n acc below =
    cond_both (eqb (n / 16) 0) (digit_glyph false (n % 16) ∷ acc)
    (digits_onto k 16 false (n / 16) (digit_glyph false (n % 16) ∷ acc))
    (λ (ds : List ℕ). length ds ≤ 1 + length acc)
    (λ _. omega arith)
    (λ many. absurd (eqb-false (n / 16) 0 many (omega arith)))
digits_onto_short (suc k) (suc j) n acc below =
    cond_both (eqb (n / 16) 0) (digit_glyph false (n % 16) ∷ acc)
    (digits_onto k 16 false (n / 16) (digit_glyph false (n % 16) ∷ acc))
    (λ (ds : List ℕ). length ds ≤ suc (suc j) + length acc)
    (λ _. omega arith)
    (λ _. omega (
      arith,
      digits_onto_short k j (n / 16) (digit_glyph false (n % 16) ∷ acc) (omega (arith, power j)),
    ))
  where
    power : (i : ℕ) → 16 ^ suc (suc i) ≡ 16 ^ suc i * 16
    power i = ap (λ (e : ℕ). 16 ^ e) (omega arith) ∙ pow_more 16 (suc i)

pub length-digits : (j n : ℕ) → n < 16 ^ suc j → length (digits 16 false n) ≤ suc j
unfolding digits
length-digits j n below = omega (arith, digits_onto_short 64 j n [] below)

-- a frame's chunk has at most seven bytes more than the frame
pub chunk_fits : (bytes : List ℕ) → length bytes ≤ 1029 → length (chunk_of bytes) ≤ length bytes + 7
chunk_fits bytes most =
    let ds = digits 16 false (length bytes) in
    let few : length ds ≤ 3 = length-digits 2 (length bytes) (omega arith) in
    omega (arith, length-append ds (line_end ++ (bytes ++ line_end)), length-append bytes line_end)

pub frame_fits : (frame : List ℕ) → IsTrue (is_frame frame)
    → length (chunk_of frame) ≤ length frame + 7
frame_fits frame valid = chunk_fits frame (frame_bounds frame valid).1

-- ---- chunks as the grammar has them

tree_of : List ℕ → Chunk
tree_of bytes = record {
  size = record { digits = digits 16 false (length bytes); extension = [] };
  bytes = bytes;
}

-- what is written is a chunk
written : (bytes : List ℕ) → 0 < length bytes → length bytes < 16 ^ 6 → IsChunk (tree_of bytes)
unfolding tree_of
written bytes some small =
    let ds = digits 16 false (length bytes) in
    let numeral = digits_is_IsNumeral 16 false (omega arith) (omega arith) (length bytes) (omega arith) in
    let few : length ds ≤ 6 = length-digits 5 (length bytes) small in
    record {
      size = record {
        numeral = numeral.0;
        digits = few;
        extension = tt;
        bytes = omega (arith, length-append ds line_end);
      };
      bytes = sym numeral.1;
      some = some;
    }

printed : (bytes : List ℕ) → print_chunk (tree_of bytes) ≡ chunk_of bytes
unfolding tree_of
printed bytes = append_assoc (digits 16 false (length bytes)) line_end (bytes ++ line_end)

-- a chunk leads from the start of a size line back to it
pub goes_written : (bytes : List ℕ) → 0 < length bytes → length bytes < 16 ^ 6
    → Goes start (chunk_of bytes) start bytes
unfolding tree_of
goes_written bytes some small =
    subst (λ (t : List ℕ). Goes start t start bytes) (printed bytes) (goes_chunk (tree_of bytes)
    (written bytes some small))

pub goes_frames : (frames : List (List ℕ)) → All (λ frame. IsTrue (is_frame frame)) frames
    → Goes start (flat_map chunk_of frames) start (concat frames)
goes_frames [] all = record { ends = refl; gives = refl }
goes_frames (frame ∷ frames) all =
    let bounds = frame_bounds frame (All-head (λ (f : List ℕ). IsTrue (is_frame f)) frame frames all) in
    goes_append start start start (chunk_of frame) (flat_map chunk_of frames) frame (concat frames)
    (goes_written frame (omega (arith, bounds.0)) (omega (arith, bounds.1)))
    (goes_frames frames (All-tail (λ (f : List ℕ). IsTrue (is_frame f)) frame frames all))

pub frames_open : (frames : List (List ℕ)) → All (λ frame. IsTrue (is_frame frame)) frames
    → IsOpen (flat_map chunk_of frames)
frames_open frames all =
    let goes = goes_frames frames all in
    open_at (flat_map chunk_of frames) (λ e. absurd (not_broken (sym goes.ends ∙ e)))
    (λ e. absurd (not_ended (sym goes.ends ∙ e)))
  where
    not_broken : start ≡ Broken → ⊥
    not_broken e = absurd cc

    not_ended : start ≡ Ended → ⊥
    not_ended e = absurd cc

pub frames_plain : (frames : List (List ℕ)) → All (λ frame. IsTrue (is_frame frame)) frames
    → IsPlain (flat_map chunk_of frames) (concat frames)
frames_plain frames all =
    subst (λ (x : List ℕ). IsPlain (flat_map chunk_of frames) x) (goes_frames frames all).gives
    (plain_is (flat_map chunk_of frames))

-- with the shortest end behind them they are a body
pub frames_whole : (frames : List (List ℕ)) → All (λ frame. IsTrue (is_frame frame)) frames
    → BodyText (flat_map chunk_of frames ++ (48 ∷ 13 ∷ 10 ∷ 13 ∷ 10 ∷ [])) (concat frames)
frames_whole frames all =
    let whole = goes_append start start Ended (flat_map chunk_of frames) ending (concat frames) []
    (goes_frames frames all) (body_goes ending [] shortest)
    in
    subst (λ (x : List ℕ). BodyText (flat_map chunk_of frames ++ ending) x)
    (whole.gives ∙ append-nil (concat frames))
    (ended_body (flat_map chunk_of frames ++ ending) whole.ends)
