-- A gate more is made.
use Rattle.std.proofs.Common.{◌≡◌, ◌∙◌, ◌+◌, ◌<◌, ◌^◌, suc, length, [], ◌∷◌, ◌++◌, rules, arith, sym, ap, subst}
use Rattle.std.specs.Prelude.{OnOk, Err}
use Rattle.std.proofs.lemmas.Result.{err_from_is_err_and}
use Rattle.std.specs.List.{All}
use Rattle.std.proofs.lemmas.List.{nil_from_length}
use Rattle.std.proofs.lemmas.List.Elements.{All-head, All-tail}
use Rattle.cast_config.specs.Kept.{KeepsRelay}
use Rattle.cast_io.specs.declared.yard_asked.YardAsked.TheVariants as asked
use Rattle.cast_io.specs.Yards.{HasBeenAsked}
use Rattle.caster_serve.proofs.StreetLemmas.{counted}
use Rattle.caster_keep.proofs.GateLemmas.{given_more, none_given, none_left, reached, reached_last}
use Rattle.caster_keep.proofs.gates.+reach_from.Goals as goal

pub address_of-requires : goal.address_of-requires
address_of-requires g t c =
    let is = c.in-Some.ensures.cases.0 in
    let kept = c.requires.kept in
    (kept.0, All-head (KeepsRelay kept.0) _ _ (subst (All (KeepsRelay kept.0)) is kept.1))

pub returns-in_err-gate-clause-asked : goal.returns-in_err-gate-clause-asked
returns-in_err-gate-clause-asked g t c =
    let is = c.in-Some.ensures.cases.0 in (
      1,
      reached_last c.args.quiet _ _ _ _ _ is
          (subst (λ text. HasBeenAsked (asked.Reach text c.args.quiet) (g.Y.Yard.kept c.args.yard.now)
          (g.Y.Yard.kept c.reach.new.self)) c.address_of.ensures c.in_err-gate.ensures.wanted),
      let p = err_from_is_err_and c.from_residual.result c.from_residual.ensures.1 in
          subst (λ r. OnOk r (1 ≡ length c.args.relays.now)) (sym (p.1 ∙ ap Err p.2)) tt,
    )

pub reach_from-requires : goal.reach_from-requires
reach_from-requires g t c =
    let is = c.in-Some.ensures.cases.0 in
    let kept = c.requires.kept in
    let all : All (KeepsRelay kept.0) c.in-Some.later.now = All-tail (KeepsRelay kept.0) _ _
    (subst (All (KeepsRelay kept.0)) is kept.1) in
    let one : length c.args.relays.now ≡ suc (length c.in-Some.later.now) = ap length is in
    let smaller : length c.in-Some.later.now < length c.args.relays.now = omega (arith, one) in
    let few : c.args.number + 1 + length c.in-Some.later.now < 2 ^ 32 = omega (arith, one, c.requires.few) in
    search rules

pub returns-clause-asked : goal.returns-clause-asked
returns-clause-asked g t c =
    let is = c.in-Some.ensures.cases.0 in
    let rest = c.reach_from.ensures.asked in (
      suc rest.0,
      reached c.args.quiet _ _ _ _ _ _ _ is
          (subst (λ text. HasBeenAsked (asked.Reach text c.args.quiet) (g.Y.Yard.kept c.args.yard.now)
          (g.Y.Yard.kept c.reach.new.self)) c.address_of.ensures c.in_ok-gate.ensures.wanted) rest.1,
      counted _ _ _ _ _ is rest.2,
    )

pub returns-in_default-clause-given : goal.returns-in_default-clause-given
returns-in_default-clause-given g t c =
    none_left g.Y.Gate.Door.told g.Y.Gate.Gate.origin c.args.number c.args.quiet c.args.relays.now
    c.args.keepers.now.items (nil_from_length c.args.relays.now c.in_default.ensures.cases)

pub returns-in_err-gate-clause-given : goal.returns-in_err-gate-clause-given
returns-in_err-gate-clause-given g t c =
    let p = err_from_is_err_and c.from_residual.result c.from_residual.ensures.1 in
    none_given g.Y.Gate.Door.told g.Y.Gate.Gate.origin c.args.number c.args.quiet c.args.relays.now
    c.args.keepers.now.items _ (subst (λ r. OnOk r (c.args.relays.now ≡ [])) (sym (p.1 ∙ ap Err p.2)) tt)

pub returns-clause-given : goal.returns-clause-given
returns-clause-given g t c =
    given_more g.Y.Gate.Door.told g.Y.Gate.Gate.origin c.args.number c.args.quiet _ _ c.args.relays.now
    c.args.keepers.now.items _ _ c.in_ok-gate.gate _ c.in-Some.ensures.cases.0
    (c.push_reserved.ensures.items ∙ ap (λ k. c.args.keepers.now.items ++ k ∷ []) c.new.ensures)
    c.in_ok-gate.ensures.each
    (c.in_ok-gate.ensures.made ∙ ap (λ text. asked.Reach text c.args.quiet) c.address_of.ensures)
    c.reach_from.ensures.given
