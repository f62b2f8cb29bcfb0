use Rattle.std.proofs.Common.{◌≡◌, ◌≤◌, length-append, map, ◌++◌, ◌∷◌, [], ℕ, List, ◌∙◌, ap, sym, arith}
use Rattle.circular_buffer.specs.Buffer.{Buffer, keep_last}
use Rattle.type_filter.specs.Permitted.{FilterValue}
use Rattle.mount_ring.specs.declared.shape.RingShape.{RingShape}
use Rattle.mount_ring.specs.Watches.{watch_of}
use Rattle.mount_ring.specs.Kept.{filters_of}
use Rattle.mount_ring.proofs.RingLemmas.{filters_of-counted, keep_last_push, published_watches}
use Rattle.mount_ring.proofs.ring.Ring.publish.Goals as goal

abbrev make_shape : ℕ → List FilterValue → RingShape
make_shape capacity filters = record { capacity = capacity; filters = filters }

pub returns-clause-shape : goal.returns-clause-shape
returns-clause-shape c =
    ap (λ (b : Buffer (List ℕ)). make_shape b.capacity (filters_of c.count_for_each.new.watches.items))
    c.push_back-fallen.ensures.items
    ∙ ap (make_shape c.args.self.now.frames.capacity) (ap filters_of c.count_for_each.ensures
    ∙ filters_of-counted c.args.frame c.push_back-fallen.result c.args.self.now.watches.items)

pub returns-clause-state : goal.returns-clause-state
returns-clause-state c = λ s few keeps.
    let n : ℕ = c.args.self.now.frames.capacity in
    let later : List (List ℕ) = s.published ++ c.args.frame ∷ [] in
    let some : 1 ≤ n = c.args.self.now.sized.0 in
    let capacity : c.push_back-fallen.new.self.capacity
    ≡ n = ap (λ (b : Buffer (List ℕ)). b.capacity) c.push_back-fallen.ensures.items in
    let items : c.push_back-fallen.new.self.items ≡ keep_last n later =
    ap (λ (b : Buffer (List ℕ)). b.items) c.push_back-fallen.ensures.items
    ∙ ap (λ (l : List (List ℕ)). keep_last n (l ++ c.args.frame ∷ [])) keeps.frames
    ∙ keep_last_push n s.published c.args.frame some in
    let counts : c.count_for_each.new.watches.items
    ≡ map (watch_of n later) (filters_of c.count_for_each.new.watches.items) =
    published_watches n s.published c.args.frame c.push_back-fallen.result c.args.self.now.frames.items
    c.args.self.now.watches.items
    c.count_for_each.new.watches.items some few keeps.frames c.push_back-fallen.ensures.value keeps.watches
    c.count_for_each.ensures in
    record {
      frames = items ∙ ap (λ (k : ℕ). keep_last k later) (sym capacity);
      watches = counts
          ∙ ap (λ (k : ℕ). map (watch_of k later) (filters_of c.count_for_each.new.watches.items)) (sym capacity);
      published = omega (arith, keeps.published, length-append s.published (c.args.frame ∷ []));
      claims = keeps.claims;
      holder = keeps.holder;
    }
