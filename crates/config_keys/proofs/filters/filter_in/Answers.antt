use Rattle.std.proofs.Common.{◌∙◌, sym, ap, option_map}
use Rattle.toml.specs.View.{table_view}
use Rattle.config_keys.proofs.FaultLemmas.{element}
use Rattle.config_keys.proofs.filters.filter_in.Goals as goal

pub returns : goal.returns
returns c =
    rw c.filter_entry_of.ensures (element c.args.key _ _ _ _ _ _
    (sym c.as_table.ensures ∙ ap (option_map (λ m. table_view m.now)) c.in-Some.is)
    c.value_at.ensures c.value_at-2.ensures c.mount_of-mount.ensures c.types-types.ensures)
