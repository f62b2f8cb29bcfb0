use Rattle.std.proofs.Common.{◌≡◌, ◌+◌, ◌-◌, length, take, drop, ap, ◌∙◌, arith, length-drop}
use Rattle.std.proofs.lemmas.List.{take_rest}
use Rattle.bench_cut.specs.Counted.{size}
use Rattle.bench_cut.proofs.CountLemmas.{fed_more, fed_size}
use Rattle.bench_cut.proofs.counting.count_fed.Goals as goal

pub loop-at-preserved : goal.loop-at-preserved
loop-at-preserved g c =
    let piece = c.args.piece.now in
    let place = c.loop-at.at in
    let count = c.feed-count.result in
    let old = c.loop-at.cutter in
    let mid = c.feed-count.new.self in
    let left = take (length piece - place) (drop place piece) in
    let rest : length left ≡ length piece - place =
    ap length (take_rest piece place) ∙ length-drop place piece
    in
    let grown : size mid c.loop-at.frames ≡ size old c.loop-at.frames + count =
    fed_size old mid left count c.loop-at.frames c.feed-count.ensures.within c.feed-count.ensures.behind
    in
    record {
      within = omega (arith, c.loop-at.invariant.within, c.feed-count.ensures.within, rest);
      waits = c.take_ready-frames.ensures.waits;
      room = omega (arith, c.take_ready-frames.ensures.room, grown, c.loop-at.invariant.room);
      gave = λ all before.
          fed_more all piece place count c.loop-at.frames c.take_ready-frames.result old mid
          c.take_ready-frames.new.cutter
          (c.loop-at.invariant.gave all before) c.feed-count.ensures.stands c.take_ready-frames.ensures.gave;
    }
