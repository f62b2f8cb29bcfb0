use Rattle.std.proofs.Common.{◌≡◌, ◌≤◌, ◌<◌, ◌-◌, ◌++◌, ◌∷◌, [], ℕ, List, ◌∙◌, ap, sym, refl, arith, length, map, take, get_or}
use Rattle.std.proofs.lemmas.Option.{slice_get_within, get_or_from_slice_get}
use Rattle.std.proofs.lemmas.List.{map_more}
use Rattle.std.proofs.Math.Seq.{take-length, drop-nil}
use Rattle.circular_buffer.specs.Buffer.{Buffer}
use Rattle.type_filter.specs.Permitted.{FilterValue}
use Rattle.mount_ring.specs.declared.shape.RingShape.{RingShape}
use Rattle.mount_ring.specs.declared.watch.Watch.{Watch}
use Rattle.mount_ring.specs.Watches.{unseen}
use Rattle.mount_ring.specs.Kept.{filters_of}
use Rattle.mount_ring.proofs.RingLemmas.{new_watches, filters_of-unseen}
use Rattle.mount_ring.proofs.ring.Ring.new.Goals as goal

pub loop-number-preserved : goal.loop-number-preserved
loop-number-preserved c =
    let filters : List FilterValue = c.args.filters.now in
    let inside : c.loop-number.number < length filters =
    slice_get_within filters c.loop-number.number c.get.result.now c.get.ensures in
    let here : get_or filters c.loop-number.number c.get.result.now ≡ c.get.result.now =
    get_or_from_slice_get filters c.loop-number.number c.get.result.now c.get.result.now c.get.ensures in
    let added : c.new.result ≡ unseen (get_or filters c.loop-number.number c.get.result.now) =
    c.new.ensures ∙ ap unseen (c.in_ok-copy.ensures ∙ sym here) in
    record {
      end = c.loop-number.invariant.end;
      made = c.in_ok-push.ensures.items
          ∙ ap (λ (ws : List Watch). ws ++ c.new.result ∷ []) c.loop-number.invariant.made
          ∙ ap (λ (w : Watch). map unseen (take c.loop-number.number filters) ++ w ∷ []) added
          ∙ sym (map_more unseen filters c.loop-number.number c.get.result.now inside);
    }

-- every filter is watched in the end
whole : (watches : List Watch) (filters : List FilterValue) (number end : ℕ)
    → watches ≡ map unseen (take number filters) →
    end ≡ length filters → number ≤ end → end ≤ number → watches ≡ map unseen filters
whole watches filters number end made end_is low high =
    let count : number ≡ length filters = omega arith in
    made ∙ ap (λ (n : ℕ). map unseen (take n filters)) count ∙ ap (map unseen) (take-length filters)

abbrev make_shape : ℕ → List FilterValue → RingShape
make_shape capacity filters = record { capacity = capacity; filters = filters }

pub returns-clause-shape : goal.returns-clause-shape
returns-clause-shape c =
    let made : c.loop-number.watches.items ≡ map unseen c.args.filters.now =
    whole c.loop-number.watches.items c.args.filters.now c.loop-number.number c.len-number-end.result
    c.loop-number.invariant.made
    c.loop-number.invariant.end c.loop-number.auto.number-end c.loop-number-test.false in
    ap (λ (b : Buffer (List ℕ)). make_shape b.capacity (filters_of c.loop-number.watches.items))
    c.in_ok-with_capacity.ensures
    ∙ ap (make_shape c.args.capacity) (ap filters_of made ∙ filters_of-unseen c.args.filters.now)

pub returns-clause-stands : goal.returns-clause-stands
returns-clause-stands c =
    let made : c.loop-number.watches.items ≡ map unseen c.args.filters.now =
    whole c.loop-number.watches.items c.args.filters.now c.loop-number.number c.len-number-end.result
    c.loop-number.invariant.made
    c.loop-number.invariant.end c.loop-number.auto.number-end c.loop-number-test.false in
    record {
      frames = ap (λ (b : Buffer (List ℕ)). b.items) c.in_ok-with_capacity.ensures
          ∙ sym (drop-nil (0 - c.in_ok-with_capacity.field-0.capacity));
      watches = new_watches c.in_ok-with_capacity.field-0.capacity c.loop-number.watches.items c.args.filters.now made;
      published = refl;
      claims = refl;
      holder = refl;
    }
