-- What a source has lost is what was kept so far and what the last read gave.
use Rattle.std.proofs.Common.{◌<◌, ◌≤◌, ◌+◌, ◌++◌, ◌∙◌, ap, length, take, arith, length-append}
use Rattle.cast_io.proofs.LogLemmas.{gave_on, gave_read}
use Rattle.cast_io.proofs.PieceLemmas.{Consumes-append}
use Rattle.cast_io.proofs.reading.read_all.Goals as goal

pub returns-then-count-limit-clause-reads : goal.returns-then-count-limit-clause-reads
returns-then-count-limit-clause-reads g c =
    let lost = c.loop-count.all.items ++ take c.in-Ok.count c.read.new.buf in
    let few : g.S.Source.reads c.read.new.self ≤ g.S.Source.reads c.args.source.now + length lost + 1 =
    omega (
      arith,
      length-append c.loop-count.all.items
          (take c.in-Ok.count c.read.new.buf),
      c.loop-count.all.ok,
      c.loop-count.invariant.reads,
      c.in-Ok.ensures.counted,
    ) in
    let few_reads : g.S.Source.reads c.read.new.self ≤ g.S.Source.reads c.args.source.now + c.args.limit + 2 =
    omega (
      arith,
      c.loop-count.invariant.within,
      c.loop-count.invariant.reads,
      c.in-Ok.ensures.counted,
    ) in
    ((lost, few, Consumes-append _ _ _ _ _ c.loop-count.invariant.bytes c.in-Ok.ensures.bytes.0), few_reads)

pub returns-in_default-extend_from_slice-clause-reads :
    goal.returns-in_default-extend_from_slice-clause-reads
returns-in_default-extend_from_slice-clause-reads g c =
    let lost = c.loop-count.all.items ++ take c.in-Ok.count c.read.new.buf in
    let few : g.S.Source.reads c.read.new.self ≤ g.S.Source.reads c.args.source.now + length lost + 1 =
    omega (
      arith,
      length-append c.loop-count.all.items
          (take c.in-Ok.count c.read.new.buf),
      c.loop-count.all.ok,
      c.loop-count.invariant.reads,
      c.in-Ok.ensures.counted,
    ) in
    let few_reads : g.S.Source.reads c.read.new.self ≤ g.S.Source.reads c.args.source.now + c.args.limit + 2 =
    omega (
      arith,
      c.loop-count.invariant.within,
      c.loop-count.invariant.reads,
      c.in-Ok.ensures.counted,
    ) in
    ((lost, few, Consumes-append _ _ _ _ _ c.loop-count.invariant.bytes c.in-Ok.ensures.bytes.0), few_reads)

pub returns-in_default-clause-on : goal.returns-in_default-clause-on
returns-in_default-clause-on g c =
    gave_on _ _ _ _ _ c.loop-count.invariant.gave c.in_default.ensures.logged

pub returns-then-count-eq0-clause-on : goal.returns-then-count-eq0-clause-on
returns-then-count-eq0-clause-on g c =
    gave_on _ _ _ _ _ c.loop-count.invariant.gave c.in-Ok.ensures.logged

pub returns-then-count-limit-clause-on : goal.returns-then-count-limit-clause-on
returns-then-count-limit-clause-on g c =
    gave_on _ _ _ _ _ c.loop-count.invariant.gave c.in-Ok.ensures.logged

pub returns-in_default-extend_from_slice-clause-on :
    goal.returns-in_default-extend_from_slice-clause-on
returns-in_default-extend_from_slice-clause-on g c =
    gave_on _ _ _ _ _ c.loop-count.invariant.gave c.in-Ok.ensures.logged

pub returns-then-count-limit-clause-lost : goal.returns-then-count-limit-clause-lost
returns-then-count-limit-clause-lost g c =
    let lost = c.loop-count.all.items ++ take c.in-Ok.count c.read.new.buf in
    let more : c.args.limit < length lost =
    omega (
      arith,
      length-append c.loop-count.all.items
          (take c.in-Ok.count c.read.new.buf),
      c.in-Ok.ensures.bound.1,
      c.loop-count.all.ok,
    ) in (
      lost,
      more,
      Consumes-append _ _ _ _ _ c.loop-count.invariant.bytes c.in-Ok.ensures.bytes.0,
      gave_read _ _ _ _ _ _ c.loop-count.invariant.gave (omega (arith, c.if-count-eq0.false))
          c.in-Ok.ensures.logged,
    )

pub returns-in_default-extend_from_slice-clause-lost : goal.returns-in_default-extend_from_slice-clause-lost
returns-in_default-extend_from_slice-clause-lost g c =
    let came = c.loop-count.all.items ++ take c.in-Ok.count c.read.new.buf in
    let few : length came ≤ c.args.limit =
    omega (
      arith,
      length-append c.loop-count.all.items
          (take c.in-Ok.count c.read.new.buf),
      c.in-Ok.ensures.bound.1,
      c.if-count-limit.false,
      c.loop-count.invariant.within,
      c.loop-count.all.ok,
    ) in (
      came,
      few,
      Consumes-append _ _ _ _ _ c.loop-count.invariant.bytes c.in-Ok.ensures.bytes.0,
      gave_read _ _ _ _ _ _ c.loop-count.invariant.gave (omega (arith, c.if-count-eq0.false))
          c.in-Ok.ensures.logged,
    )

pub loop-count-preserved : goal.loop-count-preserved
loop-count-preserved g c =
    let inv = c.loop-count.invariant in
    let items = c.in-Ok-extend_from_slice.ensures.items in
    let count = length-append c.loop-count.all.items (take c.in-Ok.count c.read.new.buf) in
    record {
      bytes = rw items (Consumes-append _ _ _ _ _ inv.bytes c.in-Ok.ensures.bytes.0);
      later = omega (arith, inv.later, c.in-Ok.ensures.cause.later);
      reads = omega (
        arith,
        ap length items,
        count,
        inv.reads,
        c.in-Ok.ensures.counted,
        c.in-Ok.ensures.bound.1,
        c.if-count-eq0.false,
        c.loop-count.all.ok,
        c.extend_from_slice.new.self.ok,
      );
      kept = c.in-Ok.ensures.kept ∙ inv.kept;
      within = omega (
        arith,
        ap length items,
        count,
        c.in-Ok.ensures.bound.1,
        c.if-count-limit.false,
        c.loop-count.all.ok,
        c.extend_from_slice.new.self.ok,
        inv.within,
      );
      gave = rw items (gave_read _ _ _ _ _ _ inv.gave (omega (arith, c.if-count-eq0.false))
          c.in-Ok.ensures.logged);
    }
