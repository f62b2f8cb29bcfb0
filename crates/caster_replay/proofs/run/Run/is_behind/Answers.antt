use Rattle.std.proofs.Common.{◌∙◌, false, List, sym, ap, subst}
use Rattle.std.specs.Prelude.{nat_lt}
use Rattle.caster_replay.specs.declared.run_connection.RunConnection.{RunConnection}
use Rattle.caster_replay.specs.RunConnections.{IsRoverIn, is_behind_by}
use Rattle.caster_replay.proofs.RunLemmas.{run_order, told_behind}
use Rattle.caster_replay.proofs.run.Run.is_behind.Goals as goal

pub rover_of-requires : goal.rover_of-requires
rover_of-requires g c = record {
  order = run_order c.requires.run.0 c.requires.run.1 c.args.self.now c.deref.result.now c.requires.run.2
      c.deref.ensures.value;
}

pub returns-in-Some : goal.returns-in-Some
returns-in-Some g c = λ config script stands.
    told_behind config script c.args.self.now c.args.number stands c.rover_of.result
    (nat_lt c.in-Some.rover.next c.published.result)
    (subst (λ (l : List RunConnection). IsRoverIn l c.args.number c.rover_of.result) c.deref.ensures.value c.rover_of.ensures)
    (ap (nat_lt c.in-Some.rover.next) c.published.ensures
    ∙ ap (is_behind_by c.args.self.now.desks.seen.rings) (sym c.in-Some.is))

pub returns-in-None : goal.returns-in-None
returns-in-None g c = λ config script stands.
    told_behind config script c.args.self.now c.args.number stands c.rover_of.result false
    (subst (λ (l : List RunConnection). IsRoverIn l c.args.number c.rover_of.result) c.deref.ensures.value c.rover_of.ensures)
    (ap (is_behind_by c.args.self.now.desks.seen.rings) (sym c.in-None.is))
