use Rattle.std.proofs.Common.{◌≡◌, true, false, sym, ap, ◌∙◌, refl, List}
use Rattle.config_keys.specs.declared.filters.FilterEntry.{FilterEntry}
use Rattle.config_keys.specs.Lists.{each_once}
use Rattle.cast_config.specs.Names.{entries_once, entry_names}
use Rattle.cast_config.proofs.entries.entries_once.Goals as goal

pub returns-then-differ : goal.returns-then-differ
unfolding entries_once
returns-then-differ c =
    let once : each_once (entry_names c.in_ok-entries.entries.items) ≡ true
    = ap (λ (es : List FilterEntry). each_once (entry_names es)) (sym c.deref.ensures.value) ∙ sym c.differ.ensures
    ∙ c.if-differ.true in
    rw (c.in_ok-entries.ensures, once) refl

pub returns-else-differ : goal.returns-else-differ
unfolding entries_once
returns-else-differ c =
    let twice : each_once (entry_names c.in_ok-entries.entries.items) ≡ false
    = ap (λ (es : List FilterEntry). each_once (entry_names es)) (sym c.deref.ensures.value) ∙ sym c.differ.ensures
    ∙ c.if-differ.false in
    rw (c.in_ok-entries.ensures, twice) refl
