use Rattle.std.proofs.Common.{◌≡◌, ◌+◌, ℕ, List, drop, length, []}
use Rattle.toml.specs.Data.{Members}
use Rattle.toml.specs.View.{items_view, table_view}
use Rattle.config_keys.specs.Answers.{Read, Gives}
use Rattle.cast_config.specs.Document.{entries}
use Rattle.cast_config.proofs.reading.each.Given as goal

abbrev pub invariant-loop-i : goal.invariant-loop-i
invariant-loop-i g l =
    (length l.list.items ≡ l.i)
    × ((rule : ℕ → List g.row.T.Denot → Members → Read g.row.T.Denot)
    → ((n : ℕ) (before table entry : _) → goal.F-post g l.one n before table entry
    → Gives entry (rule n before.now (table_view table.now)))
    → entries l.key rule (l.i + 1) l.list.items (items_view (drop l.i l.values))
    ≡ entries l.key rule 1 [] (items_view l.values))
