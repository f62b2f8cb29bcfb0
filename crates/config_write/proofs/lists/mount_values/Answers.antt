use Rattle.std.proofs.Common.{rules}
use Rattle.cast_config.specs.declared.config.Mount.{Mount}
use Rattle.toml.specs.Data.{table}
use Rattle.config_write.specs.Entries.{mounts_data, mount_tree}
use Rattle.config_write.proofs.lists.mount_values.Goals as goal

pub returns : goal.returns
unfolding mounts_data
returns c =
    c.values_of.ensures (λ (item : Mount). table (mount_tree item))
    (λ k d inside shown value is post. search rules)
