-- With the words of the rest, what came so far is what comes of all bytes.
use Rattle.std.proofs.Common.{◌≡◌, ◌+◌, ◌≤◌, ◌||◌, drop, count_by}
use Rattle.std.specs.List.{list_any}
use Rattle.caster_net.specs.Words.{is_status, is_stop, line_behind_all, words_in}
use Rattle.caster_net.proofs.halt.words_in.Given as goal

abbrev pub invariant-loop-byte : goal.invariant-loop-byte
invariant-loop-byte l = record {
  stop : (l.came.stop || list_any is_stop (words_in l.line (drop l.byte-index l.bytes)))
      ≡ list_any is_stop (words_in l.fn.line l.bytes);
  statuses : l.came.statuses + count_by is_status (words_in l.line (drop l.byte-index l.bytes))
      ≡ count_by is_status (words_in l.fn.line l.bytes);
  line : line_behind_all l.line (drop l.byte-index l.bytes) ≡ line_behind_all l.fn.line l.bytes;
  few : l.came.statuses ≤ l.byte-index;
}
