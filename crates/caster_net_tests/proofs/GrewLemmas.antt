-- A list that is told before and after a call.
use Rattle.std.proofs.Common.{◌≡◌, ◌++◌, List, [], Some, refl, sym, ap, ◌∙◌, unwrap_or}
use Rattle.cast_io.specs.Told.{Grew}

-- it has these items more
pub grew : {X : Type 0} (old new items : List X) → Grew (Some old) (Some new) items → new ≡ old ++ items
grew old new items told = let from = told new refl in
    from.2 ∙ ap (λ list. unwrap_or list [] ++ items) (sym from.1)
