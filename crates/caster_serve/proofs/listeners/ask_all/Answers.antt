-- The doors, and then the links of the relays.
use Rattle.std.proofs.Common.{◌≡◌, ◌∙◌, length, map, suc, sym, ap, subst}
use Rattle.std.specs.Prelude.{OnOk, Err}
use Rattle.std.proofs.lemmas.Result.{err_from_is_err_and}
use Rattle.std.specs.List.{All}
use Rattle.cast_config.specs.Kept.{KeepsRelay}
use Rattle.caster_serve.specs.Endpoints.{dial_of}
use Rattle.caster_serve.proofs.StreetLemmas.{opened, opened_only, all_asked, kinds_more, unused_more, unserved_at, behind}
use Rattle.caster_serve.proofs.listeners.ask_all.Goals as goal

pub returns-in_err-doors-clause-asked : goal.returns-in_err-doors-clause-asked
returns-in_err-doors-clause-asked g c = (
  1,
  opened_only c.args.config.now c.args.addr.now _ _ c.in_err-doors.ensures.wanted,
  let p = err_from_is_err_and c.from_residual.result c.from_residual.ensures.1 in
      subst (λ r. OnOk r (1 ≡ suc (length (map dial_of c.args.config.now.relay)))) (sym (p.1 ∙ ap Err p.2)) tt,
)

pub dial_from-requires-clause-kept : goal.dial_from-requires-clause-kept
dial_from-requires-clause-kept g c = (_, subst (All (KeepsRelay _)) (sym c.as_slice.ensures) c.requires.kept.1.relay)

pub returns-clause-asked : goal.returns-clause-asked
returns-clause-asked g c =
    let rest = c.dial_from.ensures.asked in (
      suc rest.0,
      opened c.args.config.now c.args.addr.now _ _ _ _ c.as_slice.ensures c.in_ok-doors.ensures.wanted
          rest.1,
      all_asked c.args.config.now _ _ c.as_slice.ensures rest.2,
    )

pub returns-clause-kinds : goal.returns-clause-kinds
returns-clause-kinds g c =
    let given = c.dial_from.ensures.given in
    kinds_more _ _ c.args.config.now c.in_ok-doors.doors.items given.0 c.dial_from.new.tasks.items _ c.as_slice.ensures
    (sym c.in_ok-doors.doors.ok.0 ∙ c.in_ok-doors.ensures.count)
    (behind _ _ _ _ _ c.requires.empty c.put_doors.ensures.put given.1)
    given.3

pub returns-clause-unused : goal.returns-clause-unused
returns-clause-unused g c =
    let given = c.dial_from.ensures.given in
    unused_more _ _ c.in_ok-doors.doors.items given.0 c.dial_from.new.tasks.items
    (behind _ _ _ _ _ c.requires.empty c.put_doors.ensures.put given.1)
    c.in_ok-doors.ensures.each given.2

pub returns-clause-unserved : goal.returns-clause-unserved
returns-clause-unserved g c =
    c.dial_from.ensures.unserved (unserved_at c.in_ok-doors.doors.items _ _ c.requires.empty c.put_doors.ensures.put)
