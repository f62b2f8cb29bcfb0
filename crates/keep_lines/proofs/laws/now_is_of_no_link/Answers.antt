-- A line of how things stand, by its first byte.
use Rattle.std.proofs.Common.{arith}
use Rattle.keep_lines.proofs.LinkLemmas.{now_alone}
use Rattle.keep_lines.proofs.laws.now_is_of_no_link.Goals as goal

pub returns : goal.returns
returns c = λ words. now_alone c.args.link words (omega arith)
