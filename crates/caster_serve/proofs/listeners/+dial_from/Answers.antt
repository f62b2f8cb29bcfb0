-- A relay more is dialled.
use Rattle.std.proofs.Common.{◌≡◌, ◌∙◌, ◌+◌, ◌<◌, ◌^◌, suc, length, rules, arith, sym, ap, subst}
use Rattle.std.specs.Prelude.{OnOk, Err}
use Rattle.std.proofs.lemmas.Result.{err_from_is_err_and}
use Rattle.std.specs.List.{All}
use Rattle.std.proofs.lemmas.List.Elements.{All-head, All-tail}
use Rattle.cast_config.specs.Kept.{KeepsRelay}
use Rattle.cast_io.specs.declared.steps.Asked.TheVariants as asked
use Rattle.cast_io.specs.Streets as streets
use Rattle.caster_serve.proofs.StreetLemmas.{dialled, dialled_last, counted, unserved_more}
use Rattle.caster_serve.proofs.listeners.+dial_from.Goals as goal

pub address_of-requires : goal.address_of-requires
address_of-requires g t c =
    let is = c.in-Some.ensures.cases.0 in
    let kept = c.requires.kept in
    (kept.0, All-head (KeepsRelay kept.0) _ _ (subst (All (KeepsRelay kept.0)) is kept.1))

pub returns-in_err-link-clause-asked : goal.returns-in_err-link-clause-asked
returns-in_err-link-clause-asked g t c =
    let is = c.in-Some.ensures.cases.0 in (
      1,
      dialled_last _ _ _ _ _ is (subst (λ text. streets.HasAsked (asked.Dial text) (g.N.Street.told c.args.street.now)
          (g.N.Street.told c.dial.new.self)) c.address_of.ensures c.in_err-link.ensures.wanted),
      let p = err_from_is_err_and c.from_residual.result c.from_residual.ensures.1 in
          subst (λ r. OnOk r (1 ≡ length c.args.relays.now)) (sym (p.1 ∙ ap Err p.2)) tt,
    )

pub dial_from-requires : goal.dial_from-requires
dial_from-requires g t c =
    let is = c.in-Some.ensures.cases.0 in
    let kept = c.requires.kept in
    let all : All (KeepsRelay kept.0) c.in-Some.later.now = All-tail (KeepsRelay kept.0) _ _
    (subst (All (KeepsRelay kept.0)) is kept.1) in
    let one : length c.args.relays.now ≡ suc (length c.in-Some.later.now) = ap length is in
    let smaller : length c.in-Some.later.now < length c.args.relays.now = omega (arith, one) in
    let few : c.args.number + 1 + length c.in-Some.later.now < 2 ^ 32 = omega (arith, one, c.requires.few) in
    search rules

pub returns-clause-asked : goal.returns-clause-asked
returns-clause-asked g t c =
    let is = c.in-Some.ensures.cases.0 in
    let rest = c.dial_from.ensures.asked in (
      suc rest.0,
      dialled _ _ _ _ _ _ _ is (subst (λ text. streets.HasAsked (asked.Dial text) (g.N.Street.told c.args.street.now)
          (g.N.Street.told c.dial.new.self)) c.address_of.ensures c.in_ok-link.ensures.wanted) rest.1,
      counted _ _ _ _ _ is rest.2,
    )

pub returns-clause-unserved : goal.returns-clause-unserved
returns-clause-unserved g t c = λ all.
    c.dial_from.ensures.unserved (unserved_more _ _ _ _ c.new.ensures c.push_reserved.ensures.items all)
