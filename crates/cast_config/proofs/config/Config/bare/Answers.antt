use Rattle.std.proofs.Common.{subst}
use Rattle.config_keys.proofs.KeepLemmas.{value_is}
use Rattle.cast_config.specs.Bare.{bare}
use Rattle.cast_config.specs.Kept.{KeepsRules}
use Rattle.cast_config.proofs.KeptLemmas.{bare_keeps_rules}
use Rattle.cast_config.proofs.config.Config.bare.Goals as goal

pub returns-in-Ok-clause-keeps : goal.returns-in-Ok-clause-keeps
returns-in-Ok-clause-keeps c =
    subst (KeepsRules 4294967295) (value_is (bare c.args.capacity) c.in-Ok.config c.in-Ok.ensures)
    (bare_keeps_rules c.args.capacity c.requires.low c.requires.high)
