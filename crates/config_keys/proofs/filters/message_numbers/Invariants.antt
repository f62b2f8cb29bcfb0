use Rattle.std.proofs.Common.{◌≡◌, drop, []}
use Rattle.config_keys.specs.Lists.{each_of}
use Rattle.config_keys.specs.Types.{message_number}
use Rattle.config_keys.proofs.filters.message_numbers.Given as goal

abbrev pub invariant-loop-number : goal.invariant-loop-number
invariant-loop-number l =
    each_of (message_number l.key) l.numbers.items (drop l.number-index l.whole) ≡ each_of (message_number l.key) []
    l.whole
