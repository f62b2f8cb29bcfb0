use Rattle.std.proofs.Common.{rules}
use Rattle.cast_config.specs.declared.config.Near.{Near}
use Rattle.toml.specs.Data.{table}
use Rattle.config_write.specs.Entries.{nears_data, near_tree}
use Rattle.config_write.proofs.lists.near_values.Goals as goal

pub returns : goal.returns
unfolding nears_data
returns c =
    c.values_of.ensures (λ (item : Near). table (near_tree c.args.mounts.now item))
    (λ k d inside shown value is post. search rules)
