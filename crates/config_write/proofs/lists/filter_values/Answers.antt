use Rattle.std.proofs.Common.{rules, ◌≡◌, ◌<◌, length, get_or, sym, ap, ◌∙◌, arith}
use Rattle.std.proofs.lemmas.List.{get_or-map, length-map}
use Rattle.cast_config.specs.declared.config.GroupFilter.{GroupFilter}
use Rattle.cast_config.specs.Kept.{filtered}
use Rattle.cast_config.specs.Names.{mount_names}
use Rattle.toml.specs.Data.{table}
use Rattle.config_write.specs.Entries.{filter_tree}
use Rattle.config_write.proofs.lists.filter_values.Goals as goal

pub values_of-requires : goal.values_of-requires
values_of-requires c k d inside filter is =
    let fs = c.args.filters.now in
    let size : length (filtered fs) ≡ length fs = length-map fs (λ (f : GroupFilter). f.mount) in
    let low : get_or (filtered fs) k 0 < length c.args.mounts.now = c.requires k 0 (omega (arith, inside, size)) in
    let same : get_or (filtered fs) k 0 ≡ filter.now.mount =
    get_or-map (λ (f : GroupFilter). f.mount) fs k d 0 inside ∙ sym (ap (λ (f : GroupFilter). f.mount) is) in
    let mount : filter.now.mount < length c.args.mounts.now = omega (arith, low, same) in
    λ _ _ _ _ _ _ _. mount

pub returns : goal.returns
returns c =
    c.values_of.ensures (λ (f : GroupFilter). table (filter_tree (mount_names c.args.mounts.now) f))
    (λ k d inside shown value is post. search rules)
