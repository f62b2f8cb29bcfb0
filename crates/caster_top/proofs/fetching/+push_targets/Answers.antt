-- One target is put behind those before, and then the others.
use Rattle.std.proofs.Common.{◌≡◌, ◌∙◌, ◌++◌, ap, sym, subst, rules, string_bytes}
use Rattle.std.proofs.lemmas.List.{append-nil}
use Rattle.std.proofs.lemmas.List.Elements.{All-push}
use Rattle.std.specs.List.{All}
use Rattle.ntrip_fetch.specs.Tries.{CanBeTried}
use Rattle.ntrip_fetch.proofs.WritingLemmas.{on_ok_so}
use Rattle.caster_top.specs.Command.{target_of}
use Rattle.caster_top.proofs.FetchingLemmas.{pushed_more}
use Rattle.caster_top.proofs.SliceLemmas.{first_target, no_target, one_more_target}
use Rattle.caster_top.proofs.fetching.+push_targets.Goals as goal

pub push_targets-requires : goal.push_targets-requires
push_targets-requires t c =
    let rest = (first_target c.args.words.now _ _ _ _ _ c.in-len5-up.len_at_least (record {
      first = c.protocol-item.is;
      second = c.address-item.is;
      third = c.mount-item.is;
      fourth = c.user-item.is;
      fifth = c.password-item.is;
    }) c.requires).1 in
    search rules

pub returns-in-empty-clause-ok : goal.returns-in-empty-clause-ok
returns-in-empty-clause-ok t c =
    sym (ap (λ l. c.args.targets.now.items ++ l) (no_target c.args.words.now c.in-empty.len_below)
    ∙ append-nil c.args.targets.now.items)

pub returns-in_ok-push-in-len5-up-clause-ok : goal.returns-in_ok-push-in-len5-up-clause-ok
returns-in_ok-push-in-len5-up-clause-ok t c =
    let a = c.as_str.ensures.value in
    let b = c.as_str-in-len5-up.ensures.value in
    let d = c.as_str-in-len5-up-2.ensures.value in
    let e = c.as_str-in-len5-up-3.ensures.value in
    let f = c.as_str-in-len5-up-4.ensures.value in
    let named = c.in_ok-target-in-len5-up.ensures.names in
    let target : c.in_ok-target-in-len5-up.target
    ≡ target_of (string_bytes c.protocol-item.result) (string_bytes c.address-item.result)
    (string_bytes c.mount-item.result) (string_bytes c.user-item.result) (string_bytes c.password-item.result) = cc in
    let all = one_more_target c.args.words.now _ _ _ _ _ c.in-len5-up.len_at_least (record {
      first = c.protocol-item.is;
      second = c.address-item.is;
      third = c.mount-item.is;
      fourth = c.user-item.is;
      fifth = c.password-item.is;
    }) in
    on_ok_so c.push_targets.result _ _
    (pushed_more c.args.targets.now.items _ _ _ _ c.in_ok-target-in-len5-up.target _
    c.in_ok-push-in-len5-up.ensures.items target all) c.push_targets.ensures.ok

pub returns-in_ok-push-in-len5-up-clause-each : goal.returns-in_ok-push-in-len5-up-clause-each
returns-in_ok-push-in-len5-up-clause-each t c =
    on_ok_so c.push_targets.result _ _
    (λ keeps all. keeps (subst (λ l. All CanBeTried l) (sym c.in_ok-push-in-len5-up.ensures.items)
    (All-push CanBeTried c.args.targets.now.items c.in_ok-target-in-len5-up.target all
    c.in_ok-target-in-len5-up.ensures.can))) c.push_targets.ensures.each
