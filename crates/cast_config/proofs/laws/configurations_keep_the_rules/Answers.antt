use Rattle.cast_config.proofs.KeptLemmas.{keeps_rules, bare_keeps_rules}
use Rattle.cast_config.proofs.laws.configurations_keep_the_rules.Goals as goal

pub returns-clause-read : goal.returns-clause-read
returns-clause-read c = keeps_rules

pub returns-clause-bare : goal.returns-clause-bare
returns-clause-bare c = bare_keeps_rules
