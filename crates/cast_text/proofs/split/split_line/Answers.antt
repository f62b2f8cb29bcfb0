use Rattle.std.proofs.Common.{ap, ◌∙◌}
use Rattle.std.specs.Str.Lines.{lines}
use Rattle.cast_text.proofs.SplitLemmas.{lines_alone, lines_front}
use Rattle.cast_text.proofs.split.split_line.Goals as goal

pub returns-in-None-clause-found : goal.returns-in-None-clause-found
returns-in-None-clause-found c = lines_alone c.args.bytes.now (cc) c.in-None.ensures.none

pub returns-in-Some-clause-found : goal.returns-in-Some-clause-found
returns-in-Some-clause-found c =
    rw c.without_carriage_return.ensures
    (ap lines c.in-Some.ensures.found ∙ lines_front c.in-Some.line.now c.in-Some.rest.now c.in-Some.ensures.free)
