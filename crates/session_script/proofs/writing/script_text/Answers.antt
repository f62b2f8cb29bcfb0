-- What is appended reads as these events.
use Rattle.session_script.proofs.ScriptLemmas.{reads_plain}
use Rattle.session_script.proofs.writing.script_text.Goals as goal

pub returns-in_err-push_line-clause-reads : goal.returns-in_err-push_line-clause-reads
returns-in_err-push_line-clause-reads c = λ kind session small. reads_plain kind c.args.events.now session small

pub returns-in_err-extend_from_slice-clause-reads : goal.returns-in_err-extend_from_slice-clause-reads
returns-in_err-extend_from_slice-clause-reads c = λ kind session small. reads_plain kind c.args.events.now session small

pub returns-in_err-extend_from_slice-2-clause-reads : goal.returns-in_err-extend_from_slice-2-clause-reads
returns-in_err-extend_from_slice-2-clause-reads c = λ kind session small. reads_plain kind c.args.events.now session small

pub returns-clause-reads : goal.returns-clause-reads
returns-clause-reads c = λ kind session small. reads_plain kind c.args.events.now session small
