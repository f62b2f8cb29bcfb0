-- There is room for each word, and it is appended.
use Rattle.keep_lines.proofs.WordLemmas.{led_more, plain_at, room_next, short_next}
use Rattle.keep_lines.proofs.words.put_words.Goals as goal

pub put_word-requires-clause-room : goal.put_word-requires-clause-room
put_word-requires-clause-room c =
    room_next c.args.words.now c.loop-word.word-index _ c.loop-word-test.true _ _ c.loop-word.invariant.short c.requires.room

pub put_word-requires-clause-plain : goal.put_word-requires-clause-plain
put_word-requires-clause-plain c =
    plain_at c.args.words.now c.loop-word.word-index _ c.loop-word-test.true c.requires.plain

pub loop-word-preserved : goal.loop-word-preserved
loop-word-preserved c = record {
  text = led_more c.args.words.now c.loop-word.word-index _ c.loop-word-test.true c.args.draft.now c.loop-word.draft c.put_word.new.draft
      c.loop-word.invariant.text c.put_word.ensures.text;
  short = short_next c.args.words.now c.loop-word.word-index _ c.loop-word-test.true _ _ _ c.loop-word.invariant.short c.put_word.ensures.short;
}
