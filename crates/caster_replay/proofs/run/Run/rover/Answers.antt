use Rattle.std.proofs.Common.{List, subst}
use Rattle.caster_replay.specs.declared.run_connection.RunConnection.{RunConnection}
use Rattle.caster_replay.specs.RunConnections.{IsRoverIn}
use Rattle.caster_replay.proofs.RunLemmas.{run_order, told_rover}
use Rattle.caster_replay.proofs.run.Run.rover.Goals as goal

pub rover_of-requires : goal.rover_of-requires
rover_of-requires g c = record {
  order = run_order c.requires.run.0 c.requires.run.1 c.args.self.now c.deref.result.now c.requires.run.2
      c.deref.ensures.value;
}

pub returns : goal.returns
returns g c = λ config script stands.
    told_rover config script c.args.self.now c.args.number stands c.rover_of.result
    (subst (λ (l : List RunConnection). IsRoverIn l c.args.number c.rover_of.result) c.deref.ensures.value c.rover_of.ensures)
