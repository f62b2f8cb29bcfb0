-- What a link tells after it was sent bytes.
use Rattle.std.specs.Prelude.{ℕ, ◌≤◌, List, [], ◌∷◌, length, take}
use Rattle.cast_io.specs.declared.steps.Step.TheVariants as took
use Rattle.cast_io.specs.Causes.{Rose}
use Rattle.cast_io.specs.Told.{LinkTold}
use Rattle.caster_link.specs.Links.{LinkGrew}

-- all of the piece was sent
abbrev pub HasSent : LinkTold → LinkTold → List ℕ → Type 0
HasSent before after piece = LinkGrew before after [] piece

-- some first bytes of it were sent, and a write failed
pub record HasTorn (before after : LinkTold) (piece : List ℕ) : Type 0 where
  pub n : ℕ
  pub within : n ≤ length piece
  pub link : LinkGrew before after (took.WriteFailed ∷ []) (take n piece)
  pub rose : Rose before.faults after.faults
