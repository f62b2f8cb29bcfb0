use Rattle.std.proofs.Common.{◌∙◌, sym, ap, List, ℤ}
use Rattle.std.proofs.Math.ListN.{drop_of_length-le}
use Rattle.config_keys.specs.Lists.{each_of}
use Rattle.config_keys.specs.Types.{message_number}
use Rattle.config_keys.proofs.NumberLemmas.{read_low}
use Rattle.config_keys.proofs.filters.message_numbers.Goals as goal

pub returns-clause-low : goal.returns-clause-low
returns-clause-low c =
    read_low c.args.key c.args.whole.now c.loop-number.numbers.items
    (sym c.loop-number.invariant
    ∙ ap (λ (rest : List ℤ). each_of (message_number c.args.key) c.loop-number.numbers.items rest)
    (drop_of_length-le _ c.loop-number-test.false))
