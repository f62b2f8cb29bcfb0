-- What was written of the frames that a body's bytes hold.
use Rattle.std.specs.Prelude.{◌≡◌, ℕ, List, length, take, Option}
use Rattle.std.specs.List.{concat}
use Rattle.std.specs.Io.KnownBytes.{Appends}
use Rattle.cast_io.specs.Pieces.{AppendsPrefix}
use Rattle.rtcm_frame.specs.Cut.{cut}
use Rattle.rtcm_frame.specs.Pending.{Pending, Gave}

-- Since the sink held `start` so many frames were written: the first of these bytes, those that the
-- cutter has given.
pub record IsWriting (start now : Option (List ℕ)) (bytes : List ℕ) (cutter : Pending) (count : ℕ)
    : Type 0 where
  pub given : List (List ℕ)
  pub gave : Gave given bytes cutter
  pub wrote : Appends start now (concat given)
  pub counted : count ≡ length given

-- as many frames of these bytes as are wanted, in order: all, or the first of them
abbrev pub wanted : ℕ → List ℕ → List (List ℕ)
wanted most bytes = take most (cut bytes).frames

-- exactly these were written, so many
pub record HasWritten (start now : Option (List ℕ)) (frames : List (List ℕ)) (count : ℕ) : Type 0
  where
    pub wrote : Appends start now (concat frames)
    pub counted : count ≡ length frames

-- a write failed: some first bytes of these frames were written
abbrev pub IsTorn : Option (List ℕ) → Option (List ℕ) → List (List ℕ) → Type 0
IsTorn start now frames = AppendsPrefix start now (concat frames)
