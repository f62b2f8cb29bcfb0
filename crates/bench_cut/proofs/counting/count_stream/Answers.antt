use Rattle.std.proofs.Common.{◌≡◌, ℕ, ◌<◌, length, sym, subst, arith}
use Rattle.std.specs.Option.{IfSome}
use Rattle.rtcm_frame.specs.Cut.{cut}
use Rattle.bench_cut.proofs.CountLemmas.{read_all, read_more, read_nothing}
use Rattle.bench_cut.proofs.counting.count_stream.Goals as goal

pub returns-then-count-eq0 : goal.returns-then-count-eq0
returns-then-count-eq0 g c =
    let read = c.in_ok-count.ensures.bytes in
    let none = c.if-count-eq0.true in
    let room : 0 < length c.read.new.buf = omega (arith, c.requires) in
    let so_far = read_nothing _ _ _ c.read.new.buf c.in_ok-count.count _ _ c.loop-count.invariant.read none read.0 in
    let counts = read_all _ _ _ _ so_far c.loop-count.invariant.waits (read.1 none room) in
    subst (λ (junk : ℕ). IfSome (g.R.Read.remaining c.args.input.now) (λ all.
    (c.loop-count.frames ≡ length (cut all).frames) × (junk ≡ (cut all).junk)))
    (sym c.junk.ensures)
    counts

pub loop-count-preserved : goal.loop-count-preserved
loop-count-preserved g c =
    let count = c.in_ok-count.count in
    let read = c.in_ok-count.ensures.bound in
    let fits = c.if-count-length.false in
    let room = c.count_piece-frames.ensures.room in
    record {
      waits = c.count_piece-frames.ensures.waits;
      room = omega (arith, room, read.1, c.loop-count.invariant.room);
      few = omega (arith, fits, c.loop-count.invariant.few);
      read = read_more _ _ _ _ _ _ _ _ c.loop-count.invariant.read c.in_ok-count.ensures.bytes.0
          c.count_piece-frames.ensures.gave;
    }
