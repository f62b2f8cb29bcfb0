use Rattle.std.proofs.Common.{◌≡◌, ◌<◌, arith, length, sym, ap, ◌∙◌, set}
use Rattle.std.proofs.lemmas.List.Edits.{map_over_more}
use Rattle.last_frames.specs.declared.latest.Latest.{Latest}
use Rattle.last_frames.specs.Latest.{noted}
use Rattle.last_frames.proofs.latest.note_in.Goals as goal

pub loop-latest-preserved : goal.loop-latest-preserved
loop-latest-preserved c =
    let f : Latest → Latest = noted c.args.frame.now in
    let inside : c.loop-latest.latest-index < length c.args.kept.now.items =
    omega (arith, c.loop-latest-test.true, ap length c.deref_mut-latest-items.ensures.value) in
    let written : c.note.new.self ≡ f c.latest-item.result = c.note.ensures ∙ ap f (sym c.latest-item.is) in
    ap (λ (w : Latest). set c.loop-latest.latest-items c.loop-latest.latest-index w) written
    ∙ map_over_more f c.args.kept.now.items c.loop-latest.latest-items c.loop-latest.latest-index c.latest-item.result
    inside c.loop-latest.invariant c.latest-item.is
