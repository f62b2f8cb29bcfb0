use Rattle.std.proofs.Common.{rules}
use Rattle.cast_config.specs.declared.config.Relay.{Relay}
use Rattle.toml.specs.Data.{table}
use Rattle.config_write.specs.Entries.{relays_data, relay_tree}
use Rattle.config_write.proofs.lists.relay_values.Goals as goal

pub returns : goal.returns
unfolding relays_data
returns c =
    c.values_of.ensures (λ (item : Relay). table (relay_tree c.args.mounts.now item))
    (λ k d inside shown value is post. search rules)
