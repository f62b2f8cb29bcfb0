use Rattle.std.proofs.Common.{◌≡◌, ◌<◌, arith, length, sym, ap, ◌∙◌, set}
use Rattle.std.proofs.lemmas.List.Edits.{map_over_more}
use Rattle.mount_ring.specs.declared.watch.Watch.{Watch}
use Rattle.mount_ring.specs.Watches.{counted}
use Rattle.mount_ring.proofs.watch.count_for_each.Goals as goal

pub loop-watch-preserved : goal.loop-watch-preserved
loop-watch-preserved c =
    let f : Watch → Watch = counted c.args.frame.now c.args.fallen.now in
    let inside : c.loop-watch.watch-index < length c.args.watches.now.items =
    omega (arith, c.loop-watch-test.true, ap length c.deref_mut-watch-items.ensures.value) in
    let written : c.count_frame.new.self ≡ f c.watch-item.result = c.count_frame.ensures ∙ ap f (sym c.watch-item.is) in
    ap (λ (w : Watch). set c.loop-watch.watch-items c.loop-watch.watch-index w) written
    ∙ map_over_more f c.args.watches.now.items c.loop-watch.watch-items c.loop-watch.watch-index c.watch-item.result
    inside c.loop-watch.invariant c.watch-item.is
