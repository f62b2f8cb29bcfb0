use Rattle.std.proofs.Common.{◌≡◌, ◌≤◌, Some, Err, sym, ap, subst, ◌∙◌, arith}
use Rattle.std.proofs.lemmas.Bool.{false≢true}
use Rattle.std.proofs.lemmas.Str.{IsUtf8-had}
use Rattle.toml.specs.Data.{members_depth}
use Rattle.toml.specs.View.{table_view}
use Rattle.config_write.specs.Written.{config_tree}
use Rattle.config_write.proofs.Depths.{AreShallow, config_shallow}
use Rattle.config_write.proofs.document.text_of.Goals as goal

pub returns-in-Ok : goal.returns-in-Ok
returns-in-Ok c =
    let same : table_view c.in_ok-table.table ≡ config_tree c.args.config.now = c.in_ok-table.ensures in
    let are = subst (AreShallow 5) (sym same) (config_shallow c.args.config.now) in
    let depth : members_depth (table_view c.in_ok-table.table) ≤ 5 = are.depth in
    record { utf8 = IsUtf8-had _ c.in-Ok.text.ok; parsed = c.in-Ok.ensures.reads_back (omega arith) ∙ ap Some same }

pub unreachable-requires : goal.unreachable-requires
unreachable-requires c =
    let same : table_view c.in_ok-table.table ≡ config_tree c.args.config.now = c.in_ok-table.ensures in
    let are = subst (AreShallow 5) (sym same) (config_shallow c.args.config.now) in
    false≢true (sym (c.table_to_string.ensures.dates.0 (c.in-Err-DateInvalid.is
    ∙ ap Err c.in-Err-DateInvalid.field-0-is)) ∙ are.dates)
