use Rattle.std.proofs.Common.{◌∙◌, false, List, refl, sym, subst}
use Rattle.caster_replay.specs.declared.run_connection.RunConnection.{RunConnection}
use Rattle.caster_replay.specs.RunConnections.{IsFoundAt, IsMissing}
use Rattle.caster_replay.proofs.RunLemmas.{run_order, missing_goes, found_goes, found_may_speak}
use Rattle.caster_replay.proofs.run.Run.goes_on.Goals as goal

pub find-requires : goal.find-requires
find-requires g c = record {
  order = run_order c.requires.run.0 c.requires.run.1 c.args.self.now c.deref.result.now c.requires.run.2
      c.deref.ensures.value;
}

pub returns-in-Some-clause-goes_on : goal.returns-in-Some-clause-goes_on
returns-in-Some-clause-goes_on g c = λ config script stands.
    found_goes config script c.args.self.now c.args.number stands c.in-Some.entry.now
    (subst (λ (l : List RunConnection). IsFoundAt l c.args.number c.in-Some.entry.now) c.deref.ensures.value
    c.in-Some.ensures.found) c.is_open.result c.is_open.ensures

pub returns-in-Some-clause-speaks : goal.returns-in-Some-clause-speaks
returns-in-Some-clause-speaks g c = λ config script stands goes.
    found_may_speak config script c.args.self.now c.args.number stands c.in-Some.entry.now
    (subst (λ (l : List RunConnection). IsFoundAt l c.args.number c.in-Some.entry.now) c.deref.ensures.value
    c.in-Some.ensures.found) (sym c.is_open.ensures ∙ goes)

pub returns-in-None-clause-goes_on : goal.returns-in-None-clause-goes_on
returns-in-None-clause-goes_on g c = λ config script stands.
    missing_goes config script c.args.self.now c.args.number stands
    (subst (λ (l : List RunConnection). IsMissing l c.args.number) c.deref.ensures.value c.in-None.ensures.none) false refl
