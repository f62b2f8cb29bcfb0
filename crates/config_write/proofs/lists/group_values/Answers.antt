use Rattle.std.proofs.Common.{rules}
use Rattle.cast_config.specs.declared.config.Group.{Group}
use Rattle.toml.specs.Data.{table}
use Rattle.config_write.specs.Entries.{groups_data, group_tree}
use Rattle.config_write.proofs.lists.group_values.Goals as goal

pub returns : goal.returns
unfolding groups_data
returns c =
    c.values_of.ensures (λ (item : Group). table (group_tree c.args.mounts.now c.args.nears.now item))
    (λ k d inside shown value is post. search rules)
