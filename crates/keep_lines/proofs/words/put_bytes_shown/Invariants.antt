-- What is shown for the bytes so far was appended.
use Rattle.std.proofs.Common.{◌≡◌, ◌≤◌, ◌+◌, ◌++◌, length, map, take}
use Rattle.keep_lines.specs.Words.{shown_byte}
use Rattle.keep_lines.proofs.words.put_bytes_shown.Given as goal

abbrev pub invariant-loop-byte : goal.invariant-loop-byte
invariant-loop-byte l = record {
  text : l.draft ≡ l.fn.draft ++ map shown_byte (take l.byte-index l.text);
  short : length l.draft ≤ length l.fn.draft + l.byte-index;
}
