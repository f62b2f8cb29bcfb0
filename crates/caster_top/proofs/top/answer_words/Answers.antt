-- The answer was decided, and then it was written.
use Rattle.std.proofs.Common.{ap}
use Rattle.caster_top.proofs.top.answer_words.Goals as goal

pub returns-clause-run : goal.returns-clause-run
returns-clause-run g c = record {
  answer = c.answer_to-answer.result;
  no_fetch = c.requires.fetch;
  no_keep = c.requires.keep;
  is = c.answer_to-answer.ensures.answer;
  written = c.end_with.ensures.writes;
  casting = c.answer_to-answer.ensures.casting;
  alone = λ nothing. ap g.N.Street.told (c.answer_to-answer.ensures.alone nothing);
}
