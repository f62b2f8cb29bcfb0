use Rattle.caster_logged.proofs.LogLemmas.{gave_read, gave_read_file}
use Rattle.caster_logged.proofs.laws.bytes_given_are_logged.Goals as goal

pub returns-clause-input : goal.returns-clause-input
returns-clause-input c = gave_read

pub returns-clause-file : goal.returns-clause-file
returns-clause-file c = gave_read_file
