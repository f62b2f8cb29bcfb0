-- The gates of the workers, and then those of the relays.
use Rattle.std.proofs.Common.{◌≡◌, ◌∙◌, length, map, suc, sym, ap, subst}
use Rattle.std.specs.Prelude.{OnOk, Err}
use Rattle.std.proofs.lemmas.Result.{err_from_is_err_and}
use Rattle.std.specs.List.{All}
use Rattle.cast_config.specs.Kept.{KeepsRelay}
use Rattle.caster_serve.proofs.StreetLemmas.{behind}
use Rattle.caster_keep.specs.Gates.{reach_of}
use Rattle.caster_keep.proofs.GateLemmas.{all_asked, all_made, all_new, all_roles, all_unused, opened, opened_only}
use Rattle.caster_keep.proofs.gates.ask_gates.Goals as goal

pub returns-in_err-gates-clause-asked : goal.returns-in_err-gates-clause-asked
returns-in_err-gates-clause-asked g c = (
  1,
  opened_only c.args.config.now c.args.addr.now c.args.quiet _ _ c.in_err-gates.ensures.wanted,
  let p = err_from_is_err_and c.from_residual.result c.from_residual.ensures.1 in
      subst (λ r. OnOk r (1 ≡ suc (length (map (reach_of c.args.quiet) c.args.config.now.relay))))
      (sym (p.1 ∙ ap Err p.2)) tt,
)

pub reach_from-requires-clause-kept : goal.reach_from-requires-clause-kept
reach_from-requires-clause-kept g c = (_, subst (All (KeepsRelay _)) (sym c.as_slice.ensures) c.requires.kept.1.relay)

pub returns-clause-asked : goal.returns-clause-asked
returns-clause-asked g c =
    let rest = c.reach_from.ensures.asked in (
      suc rest.0,
      opened c.args.config.now c.args.addr.now c.args.quiet _ _ _ _ c.as_slice.ensures c.in_ok-gates.ensures.wanted
          rest.1,
      all_asked c.args.config.now c.args.quiet _ _ c.as_slice.ensures rest.2,
    )

pub returns-clause-fresh : goal.returns-clause-fresh
returns-clause-fresh g c =
    let given = c.reach_from.ensures.given in
    all_new g.Y.Gate.Door.told c.in_ok-gates.gates.items given.0 c.reach_from.new.keepers.items
    (behind _ _ _ _ _ c.requires.empty c.put_workers.ensures.put given.1) given.2

pub returns-clause-unused : goal.returns-clause-unused
returns-clause-unused g c =
    let given = c.reach_from.ensures.given in
    all_unused g.Y.Gate.Door.told c.in_ok-gates.gates.items given.0 c.reach_from.new.keepers.items
    (behind _ _ _ _ _ c.requires.empty c.put_workers.ensures.put given.1) c.in_ok-gates.ensures.each given.3

pub returns-clause-roles : goal.returns-clause-roles
returns-clause-roles g c =
    let given = c.reach_from.ensures.given in
    all_roles g.Y.Gate.Door.told c.args.config.now c.in_ok-gates.gates.items given.0 c.reach_from.new.keepers.items _
    c.as_slice.ensures (sym c.in_ok-gates.gates.ok.0 ∙ c.in_ok-gates.ensures.count)
    (behind _ _ _ _ _ c.requires.empty c.put_workers.ensures.put given.1) given.4

pub returns-clause-made : goal.returns-clause-made
returns-clause-made g c =
    let given = c.reach_from.ensures.given in
    all_made g.Y.Gate.Gate.origin c.args.config.now c.args.addr.now c.args.quiet c.in_ok-gates.gates.items given.0
    c.reach_from.new.keepers.items _ c.as_slice.ensures
    (sym c.in_ok-gates.gates.ok.0 ∙ c.in_ok-gates.ensures.count)
    (behind _ _ _ _ _ c.requires.empty c.put_workers.ensures.put given.1) c.in_ok-gates.ensures.made given.5
