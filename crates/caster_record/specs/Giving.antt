-- What a link was given behind a read.
use Rattle.std.specs.Prelude.{◌≡◌, ℕ, ◌≤◌, Bool, true, false, List, [], ◌++◌, Some}
use Rattle.cast_io.specs.Told.{LinkTold, Grew}
use Rattle.caster_record.specs.Moves.{torn_step}

-- The link was given this piece, all of it, or the first of it where the write was torn; then its
-- count of faults rose.
pub record HasGiven (old new : LinkTold) (torn : Bool) (piece : List ℕ) : Type 0 where
  pub given : new.given ≡ old.given
  pub left : new.left ≡ old.left
  pub taken : Grew old.taken new.taken (torn_step torn)
  pub bytes : (list : List ℕ) → new.bytes ≡ Some list
      → (before : List ℕ) × (old.bytes ≡ Some before) × (rest : List ℕ)
      × (before ++ piece ≡ list ++ rest) × (torn ≡ false → rest ≡ [])
  pub later : old.faults ≤ new.faults
  pub failed : torn ≡ true → 1 ≤ new.faults
