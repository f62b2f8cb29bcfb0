use Rattle.session_script.proofs.ScriptLemmas.{reads_any, reads_plain}
use Rattle.session_script.proofs.laws.reads_what_is_written.Goals as goal

pub returns-clause-plain : goal.returns-clause-plain
returns-clause-plain c = reads_plain

pub returns-clause-any : goal.returns-clause-any
returns-clause-any c = reads_any
