use Rattle.std.proofs.Common.{◌∙◌, List, sym, subst}
use Rattle.caster_replay.specs.declared.run_connection.RunConnection.{RunConnection}
use Rattle.caster_replay.specs.RunConnections.{IsFoundAt, IsMissing}
use Rattle.caster_replay.proofs.RunLemmas.{run_order, found_sent, missing_sent}
use Rattle.caster_replay.proofs.run.Run.sent.Goals as goal

pub find-requires : goal.find-requires
find-requires g c = record {
  order = run_order c.requires.run.0 c.requires.run.1 c.args.self.now c.deref.result.now c.requires.run.2
      c.deref.ensures.value;
}

pub returns-in-Some : goal.returns-in-Some
returns-in-Some g c =
    c.deref-in-Some.ensures.value
    ∙ sym (found_sent c.args.self.now.entries.items c.args.number c.in-Some.entry.now
    (subst (λ (l : List RunConnection). IsFoundAt l c.args.number c.in-Some.entry.now) c.deref.ensures.value
    c.in-Some.ensures.found))

pub returns-in-None : goal.returns-in-None
returns-in-None g c =
    sym (missing_sent c.args.self.now.entries.items c.args.number
    (subst (λ (l : List RunConnection). IsMissing l c.args.number) c.deref.ensures.value c.in-None.ensures.none))
