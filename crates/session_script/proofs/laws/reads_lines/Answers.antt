use Rattle.session_script.proofs.FormLemmas.{line_form}
use Rattle.session_script.proofs.SoundLemmas.{line_sound}
use Rattle.session_script.proofs.WriteLemmas.{line_reads}
use Rattle.session_script.proofs.laws.reads_lines.Goals as goal

pub returns-clause-reads : goal.returns-clause-reads
returns-clause-reads c kind line event fits is = (line_reads kind line event fits is).found

pub returns-clause-only : goal.returns-clause-only
returns-clause-only c = line_form

pub returns-clause-ranges : goal.returns-clause-ranges
returns-clause-ranges c kind line event reads = (line_sound kind line event reads).in_grammar
