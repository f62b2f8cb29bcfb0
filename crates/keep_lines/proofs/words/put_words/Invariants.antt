-- The words so far were appended.
use Rattle.std.proofs.Common.{◌≡◌, ◌≤◌, ◌+◌, ◌++◌, length, take}
use Rattle.keep_lines.specs.Words.{led, room_for, texts_in}
use Rattle.keep_lines.proofs.words.put_words.Given as goal

abbrev pub invariant-loop-word : goal.invariant-loop-word
invariant-loop-word l = record {
  text : l.draft ≡ l.fn.draft ++ led (texts_in (take l.word-index l.words));
  short : length l.draft ≤ length l.fn.draft + room_for (take l.word-index l.words);
}
