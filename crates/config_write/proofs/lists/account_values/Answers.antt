use Rattle.std.proofs.Common.{rules}
use Rattle.cast_config.specs.declared.config.Account.{Account}
use Rattle.toml.specs.Data.{table}
use Rattle.config_write.specs.Entries.{accounts_data, account_tree}
use Rattle.config_write.proofs.lists.account_values.Goals as goal

pub returns : goal.returns
unfolding accounts_data
returns c =
    c.values_of.ensures (λ (item : Account). table (account_tree c.args.groups.now item))
    (λ k d inside shown value is post. search rules)
