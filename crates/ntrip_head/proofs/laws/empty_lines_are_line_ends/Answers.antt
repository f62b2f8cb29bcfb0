use Rattle.ntrip_head.proofs.EmptyLineLemmas.{to_line_end, from_line_end}
use Rattle.ntrip_head.proofs.laws.empty_lines_are_line_ends.Goals as goal

pub returns : goal.returns
returns c = λ bytes. (to_line_end bytes, from_line_end bytes)
