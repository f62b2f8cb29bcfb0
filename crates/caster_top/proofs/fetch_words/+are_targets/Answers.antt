-- Five words are a target, and then come those behind them.
use Rattle.std.proofs.Common.{◌≡◌, ◌∙◌, true, string_bytes}
use Rattle.caster_top.specs.Command.{is_target}
use Rattle.caster_top.proofs.SliceLemmas.{too_few_words, later_targets}
use Rattle.caster_top.proofs.fetch_words.+are_targets.Goals as goal

pub returns-in-len1-up : goal.returns-in-len1-up
returns-in-len1-up t c = too_few_words c.args.words.now c.in-len1-up.len_at_least c.in-len1-up.len_below

pub returns-then-is_target : goal.returns-then-is_target
returns-then-is_target t c =
    let says = c.is_target.ensures in
    let yes = c.if-is_target.true in
    let a = c.as_str.ensures.value in
    let b = c.as_str-in-len5-up.ensures.value in
    let d = c.as_str-in-len5-up-2.ensures.value in
    let e = c.as_str-in-len5-up-3.ensures.value in
    let f = c.as_str-in-len5-up-4.ensures.value in
    let target : is_target (string_bytes c.protocol-item.result) (string_bytes c.address-item.result)
    (string_bytes c.mount-item.result) (string_bytes c.user-item.result) (string_bytes c.password-item.result) ≡ true =
    cc in
    c.are_targets.ensures
    ∙ later_targets c.args.words.now _ _ _ _ _ c.in-len5-up.len_at_least (record {
      first = c.protocol-item.is;
      second = c.address-item.is;
      third = c.mount-item.is;
      fourth = c.user-item.is;
      fifth = c.password-item.is;
    }) target
