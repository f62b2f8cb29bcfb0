use Rattle.std.proofs.Common.{◌≡◌, None, take}
use Rattle.std.specs.List.{last_or}
use Rattle.cast_text.specs.Lines.{StandsFor}
use Rattle.gga_read.specs.Report.{reports}
use Rattle.examples.proofs.positions.last_position.Given as goal

-- the reports of the bytes so far were looked at
abbrev pub invariant-loop-byte : goal.invariant-loop-byte
invariant-loop-byte l = record {
  stands : StandsFor l.reports (take l.byte-index l.bytes);
  last : l.last ≡ last_or None (reports (take l.byte-index l.bytes));
}
