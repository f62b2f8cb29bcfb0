-- What was read so far is kept, and each read but the last gave a byte.
use Rattle.std.proofs.Common.{◌≡◌, ◌≤◌, ◌+◌, ◌-◌, vec_len}
use Rattle.std.specs.Io.KnownBytes.{Consumes}
use Rattle.cast_io.specs.Logs.{GaveFirst}
use Rattle.cast_io.proofs.reading.read_all.Given as goal

abbrev pub invariant-loop-count : goal.invariant-loop-count
invariant-loop-count g l = let source = g.S.Source in record {
  bytes : Consumes (source.left l.fn.source) (source.left l.source) l.all.items;
  later : source.faults l.fn.source ≤ source.faults l.source;
  reads : source.reads l.source ≤ source.reads l.fn.source + vec_len l.all;
  kept : source.store l.source ≡ source.store l.fn.source;
  within : vec_len l.all ≤ l.limit;
  gave : GaveFirst (source.log l.fn.source) (source.log l.source) l.all.items;
}

abbrev pub decreases-loop-count : goal.decreases-loop-count
decreases-loop-count g l = l.limit - vec_len l.all
