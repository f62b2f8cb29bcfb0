-- What no call on a ring changes, as the definitions of its answers take it.
use Rattle.std.specs.Prelude.{map}
use Rattle.type_filter.specs.Permitted.{permits}
use Rattle.mount_ring.specs.declared.shape.RingShape.{RingShape}
use Rattle.mount_ring.specs.History.{Shape}

-- the capacity, and the test of each filter by its number
abbrev pub shape_of : RingShape → Shape
shape_of shape = record { capacity = shape.capacity; filters = map permits shape.filters }
