use Rattle.std.proofs.Common.{◌≡◌, ◌≤◌, take}
use Rattle.std.specs.Prelude.{count_by}
use Rattle.gga_read.proofs.FieldLemmas.{is_comma}
use Rattle.gga_read.proofs.sentence.count_fields.Given as goal

abbrev pub invariant-loop-byte : goal.invariant-loop-byte
invariant-loop-byte l = record {
  so_far : l.count ≡ count_by is_comma (take l.byte-index l.text);
  few : l.count ≤ l.byte-index;
}
