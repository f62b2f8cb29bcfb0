use Rattle.std.proofs.Common.{◌≡◌, ℕ, ◌<◌, ◌∙◌, ap, sym, arith, length, List, Bool}
use Rattle.std.specs.List.{count_by}
use Rattle.std.proofs.lemmas.List.{length-map}
use Rattle.type_filter.specs.Permitted.{permits}
use Rattle.mount_ring.specs.declared.cursor.Cursor.{Cursor}
use Rattle.mount_ring.specs.declared.watch.Watch.{Watch}
use Rattle.mount_ring.specs.History.{permits_at}
use Rattle.mount_ring.specs.Shapes.{shape_of}
use Rattle.mount_ring.specs.Watches.{watch_of}
use Rattle.mount_ring.specs.Kept.{ring_shape}
use Rattle.mount_ring.proofs.RingLemmas.{permits_watched, watch_kept}
use Rattle.mount_ring.proofs.ring.Ring.join.Goals as goal

abbrev joined_at : ℕ → ℕ → ℕ → Cursor
joined_at filter next passed = record { next = next; passed = passed; filter = filter }

pub returns : goal.returns
returns c = λ s keeps.
    let watch : Watch = c.index.result.now in
    let ring = c.args.self.now in
    let inside : c.args.filter < length ring.watches.items =
    omega (arith, c.requires, length-map ring.watches.items (λ (w : Watch). w.filter)) in
    let counts : watch ≡ watch_of ring.frames.capacity s.published watch.filter =
    watch_kept ring.frames.capacity s.published ring.watches.items c.args.filter watch keeps.watches inside
    c.index.ensures in
    let test : permits_at (shape_of (ring_shape ring)) c.args.filter ≡ permits watch.filter =
    permits_watched ring.frames.capacity ring.watches.items c.args.filter watch inside c.index.ensures in
    ap (λ (n : ℕ). joined_at c.args.filter n watch.permitted) keeps.published
    ∙ ap (joined_at c.args.filter (length s.published)) (ap (λ (w : Watch). w.permitted) counts
    ∙ ap (λ (p : List ℕ → Bool). count_by p s.published) (sym test))
