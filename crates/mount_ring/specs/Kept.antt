-- What a ring keeps of all frames that were ever published.
use Rattle.std.specs.Prelude.{◌≡◌, List, length, map}
use Rattle.circular_buffer.specs.Buffer.{keep_last}
use Rattle.type_filter.specs.Permitted.{FilterValue}
use Rattle.mount_ring.specs.declared.shape.RingShape.{RingShape}
use Rattle.mount_ring.specs.declared.watch.Watch.{Watch}
use Rattle.mount_ring.specs.declared.ring.Ring.{Ring}
use Rattle.mount_ring.specs.History.{State}
use Rattle.mount_ring.specs.Watches.{watch_of}

-- the filters of these counts
abbrev pub filters_of : List Watch → List FilterValue
filters_of watches = map (λ (watch : Watch). watch.filter) watches

-- what no call changes
abbrev pub ring_shape : Ring → RingShape
ring_shape ring = record {
  capacity = ring.frames.capacity;
  filters = filters_of ring.watches.items;
}

-- The ring keeps what this state says: the last frames, the counts for each filter, and the
-- numbers.
pub record Keeps (ring : Ring) (state : State) : Type 0 where
  pub frames : ring.frames.items ≡ keep_last ring.frames.capacity state.published
  pub watches : ring.watches.items
      ≡ map (watch_of ring.frames.capacity state.published) (filters_of ring.watches.items)
  pub published : ring.published ≡ length state.published
  pub claims : ring.claims ≡ state.claims
  pub holder : ring.holder ≡ state.holder
