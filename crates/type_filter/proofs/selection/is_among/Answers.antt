use Rattle.std.proofs.Common.{◌∙◌}
use Rattle.type_filter.proofs.NumberLaws.{searched_list}
use Rattle.type_filter.proofs.selection.is_among.Goals as goal

pub returns : goal.returns
returns c =
    c.is_ok.ensures.value
    ∙ searched_list c.args.numbers.now c.args.number c.binary_search.result c.requires c.binary_search.ensures.position
