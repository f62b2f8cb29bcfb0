-- A line of a link, by its first word.
use Rattle.keep_lines.proofs.LinkLemmas.{begins_alone, begins_own}
use Rattle.std.proofs.Common.{arith}
use Rattle.keep_lines.proofs.laws.links_are_told_apart.Goals as goal

pub returns-clause-own : goal.returns-clause-own
returns-clause-own c = λ word words. begins_own c.args.link word words

pub returns-clause-others : goal.returns-clause-others
returns-clause-others c = λ words of.
    begins_alone c.args.link c.args.other words (omega arith) (omega arith) (omega arith) (omega arith) of
