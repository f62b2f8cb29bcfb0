-- How a frame is held: in a buffer of the greatest length, with zeros behind it.
use Rattle.std.specs.Prelude.{◌≡◌, ℕ, ◌-◌, ◌≤◌, List, ◌++◌, length, take, drop, replicate, IsTrue}
use Rattle.std.proofs.Common.{ap, ap₂, ◌∙◌, sym, arith, length-take-le}
use Rattle.std.proofs.lemmas.List.{take-append-drop}
use Rattle.rtcm_frame.specs.declared.framing.Frame.TheInside.{Inside}
use Rattle.rtcm_frame.specs.Transport.{longest, is_frame}

-- the front of the buffer is a whole frame, and what is behind it is zero
pub record IsPadded (f : Inside) : Type 0 where
  pub size : length f.bytes ≡ longest
  pub within : f.len ≤ longest
  pub valid : IsTrue (is_frame (take f.len f.bytes))
  pub zeros : drop f.len f.bytes ≡ replicate (longest - f.len) 0

-- the buffer that holds these bytes
abbrev pub padded : List ℕ → Inside
padded bytes = record { bytes = bytes ++ replicate (longest - length bytes) 0; len = length bytes }

-- a frame's bytes say how it is held
pub padded_gives_back : (f : Inside) → IsPadded f → padded (take f.len f.bytes) ≡ f
padded_gives_back f h =
    let length_taken : length (take f.len f.bytes) ≡ f.len =
    length-take-le f.len f.bytes (omega arith)
    in
    let front = take f.len f.bytes in
    let filled : front ++ replicate (longest - length front) 0 ≡ f.bytes =
    ap (λ n. take f.len f.bytes ++ replicate (longest - n) 0) length_taken
    ∙ ap (λ (xs : List ℕ). take f.len f.bytes ++ xs) (sym h.zeros)
    ∙ take-append-drop f.len f.bytes
    in
    ap₂ (λ (xs : List ℕ) (n : ℕ). make xs n) filled length_taken
  where
    make : List ℕ → ℕ → Inside
    make xs n = record { bytes = xs; len = n }
