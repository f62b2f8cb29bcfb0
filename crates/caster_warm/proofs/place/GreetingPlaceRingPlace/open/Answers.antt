use Rattle.std.proofs.Common.{◌∙◌, List, get_or, sym, ap}
use Rattle.mount_ring.specs.Kept.{ring_shape}
use Rattle.cast_config.specs.declared.config.Mount.{Mount}
use Rattle.type_filter.specs.Permitted.{FilterValue}
use Rattle.caster_replay.proofs.DeskLemmas.{shape_at, shape_of}
use Rattle.caster_warm.proofs.place.GreetingPlaceRingPlace.open.Goals as goal

pub returns-clause-shape : goal.returns-clause-shape
returns-clause-shape c = λ d.
    ap (λ desk. ring_shape desk.value.ring) c.new-place.ensures.inner
    ∙ c.new-2.ensures.shape ∙ c.in_ok-station.ensures.shape
    ∙ ap (λ (m : Mount). shape_of m.ring c.filters.result.now) (sym c.index-as_slice-number.is)
    ∙ ap (λ (f : List FilterValue). shape_of c.index-as_slice-number.result.ring f) c.filters.ensures
    ∙ shape_at c.args.config.now.group c.args.number c.args.config.now.mount c.index-as_slice-number.result d
    c.requires.there
    (c.index-as_slice-number.is
    ∙ ap (λ (l : List Mount). get_or l c.args.number c.index-as_slice-number.result) c.as_slice.ensures)
