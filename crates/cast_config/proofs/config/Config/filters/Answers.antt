use Rattle.std.proofs.Common.{◌≡◌, List, length, get_or, ap, ◌∙◌, arith}
use Rattle.type_filter.specs.Permitted.{FilterValue}
use Rattle.cast_config.proofs.ServedLemmas.{filters_index, filters_length}
use Rattle.cast_config.proofs.config.Config.filters.Goals as goal

pub bounds-as_slice-m : goal.bounds-as_slice-m
bounds-as_slice-m c =
    let all : length c.as_slice.result.now ≡ length c.args.self.now.mount
    = ap (λ (fs : List (List FilterValue)). length fs) (c.as_slice.ensures ∙ c.requires.kept)
    ∙ filters_length c.args.self.now.mount c.args.self.now.group in
    omega (arith, all, c.requires.mount)

pub returns : goal.returns
returns c =
    c.index-as_slice-m.is
    ∙ ap (λ (fs : List (List FilterValue)). get_or fs c.args.m c.index-as_slice-m.result)
    (c.as_slice.ensures ∙ c.requires.kept)
    ∙ filters_index c.args.self.now.mount c.args.self.now.group c.args.m c.index-as_slice-m.result c.requires.mount
