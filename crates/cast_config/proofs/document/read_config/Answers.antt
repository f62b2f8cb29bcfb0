use Rattle.toml.specs.View.{table_view}
use Rattle.cast_config.proofs.KeptLemmas.{keeps_rules}
use Rattle.cast_config.proofs.document.read_config.Goals as goal

pub returns-in-Ok-config_in-clause-keeps : goal.returns-in-Ok-config_in-clause-keeps
returns-in-Ok-config_in-clause-keeps c = keeps_rules (table_view c.in-Ok.table) c.in-Ok-config_in.config
    c.in-Ok-config_in.ensures
