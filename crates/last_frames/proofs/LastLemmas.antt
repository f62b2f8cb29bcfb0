-- What is kept of each number is the last frame of that number, however many are published.
use Rattle.std.proofs.Common.{◌≡◌, ℕ, Bool, false, List, map, ap, ◌∙◌, Option, Some}
use Rattle.std.specs.Prelude.{slice_get, unwrap_or}
use Rattle.std.specs.Option.{option_map}
use Rattle.std.proofs.lemmas.Option.{slice_get-map}
use Rattle.type_filter.specs.Permitted.{FilterValue, permits}
use Rattle.mount_ring.specs.declared.shape.RingShape.{RingShape}
use Rattle.mount_ring.specs.History.{permits_at}
use Rattle.mount_ring.specs.Shapes.{shape_of}

-- the test of a filter by its number among those that are offered
pub permits_offered : (shape : RingShape) (number : ℕ) (filter : FilterValue)
    → slice_get shape.filters number ≡ Some filter
    → permits_at (shape_of shape) number ≡ permits filter
permits_offered shape number filter found =
    let test : slice_get (map permits shape.filters) number ≡ Some (permits filter) =
    slice_get-map permits shape.filters number ∙ ap (option_map permits) found in
    ap (λ (o : Option (List ℕ → Bool)). unwrap_or o (λ (frame : List ℕ). false)) test
