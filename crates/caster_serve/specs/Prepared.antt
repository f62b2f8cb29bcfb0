-- What a caster needs before its first caller starts.
use Rattle.std.specs.Prelude.{◌≡◌, ℕ, [], length}
use mathlib.Core.Option.{some}
use lib.ListN.{get_elem?}
use Rattle.caster_places.specs.Rows.{ArePiles, HaveRoom, IsRoomFor}
use Rattle.caster_serve.specs.declared.whole.Ready.{Ready}
use Rattle.caster_seats.specs.declared.shared.Passes.{Passes}
use Rattle.caster_seats.specs.Sharing.{AreNewPasses, AreOpenFor, IsReady}

-- its locks are open with new passes for so many callers, and there is room for what comes back
pub record IsPrepared (callers : ℕ) (ready : Ready) : Type 0 where
  pub locks : IsReady ready.shared
  pub opened : AreOpenFor callers ready.shared
  pub count : length ready.passes.items ≡ callers
  pub passes : (number : ℕ) (pass : Passes) → get_elem? ready.passes.items number ≡ some pass
      → AreNewPasses number pass ready.shared
  pub room : HaveRoom callers ready.piles
  pub empty : ArePiles [] ready.piles ready.shared.rings.items ready.shared.book
  pub none : ready.piles.book.items ≡ []
  pub totals : IsRoomFor ready.shared.config.now ready.totals
