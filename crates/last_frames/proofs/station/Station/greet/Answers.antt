-- The filter of this number is the one that the ring offers under it.
use Rattle.std.proofs.Common.{◌∙◌, ap, sym, ℕ, Bool, List}
use Rattle.std.specs.Prelude.{slice_get}
use Rattle.type_filter.specs.Permitted.{FilterValue, permits}
use Rattle.mount_ring.specs.Kept.{ring_shape}
use Rattle.last_frames.specs.Latest.{permitted_of}
use Rattle.last_frames.proofs.LastLemmas.{permits_offered}
use Rattle.last_frames.proofs.station.Station.greet.Goals as goal

pub returns : goal.returns
returns c =
    let station = c.args.self.now in
    let filter : FilterValue = c.get.result.now in
    let found = ap (λ (filters : List FilterValue). slice_get filters c.args.filter) station.offered ∙ c.get.ensures in
    c.fill.ensures ∙ ap (permitted_of (permits filter)) c.deref.ensures.value
    ∙ ap (λ (test : List ℕ → Bool). permitted_of test station.latest.items)
    (sym (permits_offered (ring_shape station.ring) c.args.filter filter found))
