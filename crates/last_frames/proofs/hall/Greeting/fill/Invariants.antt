use Rattle.std.proofs.Common.{◌≡◌, ◌≤◌, length, take}
use Rattle.type_filter.specs.Permitted.{permits}
use Rattle.last_frames.specs.Latest.{permitted_of}
use Rattle.last_frames.proofs.hall.Greeting.fill.Given as goal

abbrev pub invariant-loop-latest : goal.invariant-loop-latest
invariant-loop-latest l = record {
  end : l.latest-index-end ≡ length l.kept;
  items : l.self ≡ permitted_of (permits l.filter) (take l.latest-index l.kept);
  few : length l.self ≤ l.latest-index;
}
