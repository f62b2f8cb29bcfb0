-- By stage.
use Rattle.std.proofs.Common.{ℕ, map, refl, sym, subst}
use Rattle.session_calls.specs.Rings.{AllSpeak, all_alone}
use Rattle.rover_session.specs.Standing.{WasResumable}
use Rattle.session_core.specs.declared.session_stage.SessionStage.{SessionStage}
use Rattle.session_core.specs.declared.session_stage.SessionStage.TheVariants as stages
use Rattle.session_core.specs.Turned.{IsReadBy, TurnedAt}
use Rattle.session_core.proofs.HoldingLemmas.{rover_on}
use Rattle.session_core.proofs.TurningLemmas.{rover_turned, halted_of, cause_of, no_bystander}
use Rattle.session_core.proofs.turning.turn_at.Goals as goal

pub turn-requires-clause-speaks : goal.turn-requires-clause-speaks
turn-requires-clause-speaks g c =
    let reads = subst (IsReadBy (map g.T.Turns.shape c.args.rings.now) c.args.me (map g.T.Turns.seen c.args.rings.now))
    c.in-Rover.is c.requires.reads in
    subst (λ (m : ℕ). AllSpeak g.T.Turns.speaks c.args.rings.now m) (sym reads.0) c.requires.speaks

pub turn-requires-clause-resumes : goal.turn-requires-clause-resumes
turn-requires-clause-resumes g c =
    let reads = subst (IsReadBy (map g.T.Turns.shape c.args.rings.now) c.args.me (map g.T.Turns.seen c.args.rings.now))
    c.in-Rover.is c.requires.reads in
    subst (λ (m : ℕ). WasResumable (map g.T.Turns.shape c.args.rings.now) m (map g.T.Turns.seen c.args.rings.now)
    c.in-Rover.session.segments) (sym reads.0) reads.2

pub returns-in-Rover-clause-bystander : goal.returns-in-Rover-clause-bystander
returns-in-Rover-clause-bystander g c = λ apart.
    absurd (no_bystander c.args.stage.now c.in-Rover._account c.in-Rover.session c.in-Rover.is apart)

pub returns-in-Rover-clause-holds : goal.returns-in-Rover-clause-holds
returns-in-Rover-clause-holds g c =
    rover_on c.args.stage.now c.in-Rover._account c.in-Rover.session c.turn.new.self c.in-Rover.is

pub returns-in-Rover-clause-turned : goal.returns-in-Rover-clause-turned
returns-in-Rover-clause-turned g c =
    let t = c.turn.ensures in
    subst (λ (s : SessionStage). TurnedAt (map g.T.Turns.shape c.args.rings.now) (all_alone g.T.Turns.alone c.args.rings.now)
    (map g.T.Turns.seen c.args.rings.now) (map g.T.Turns.seen c.turn.new.places) c.args.budget s
    (stages.Rover c.in-Rover._account c.turn.new.self) c.halt_of.result c.args.out.now.items c.turn.new.out.items)
    (sym c.in-Rover.is) (
      c.turn.new.self,
      refl,
      rover_turned (map g.T.Turns.shape c.args.rings.now)
          (all_alone g.T.Turns.alone c.args.rings.now)
          (map g.T.Turns.seen c.args.rings.now) (map g.T.Turns.seen c.turn.new.places) c.args.budget
          c.in-Rover.session c.turn.new.self c.turn.result c.halt_of.result c.args.out.now.items
          c.turn.new.out.items c.halt_of.ensures t.same t.resumable t.turned t.err,
    )

pub returns-in-Rover-clause-halted : goal.returns-in-Rover-clause-halted
returns-in-Rover-clause-halted g c =
    halted_of _ (map g.T.Turns.seen c.args.rings.now) (map g.T.Turns.seen c.turn.new.places) c.args.out.now.items
    c.turn.new.out.items c.turn.result c.halt_of.result c.halt_of.ensures c.turn.ensures.err

pub returns-in-Rover-clause-cause : goal.returns-in-Rover-clause-cause
returns-in-Rover-clause-cause g c =
    let reads = subst (IsReadBy (map g.T.Turns.shape c.args.rings.now) c.args.me (map g.T.Turns.seen c.args.rings.now))
    c.in-Rover.is c.requires.reads in
    cause_of (map g.T.Turns.worn c.turn.new.places) c.in-Rover.session.halt c.turn.result c.halt_of.result
    c.halt_of.ensures reads.1 c.turn.ensures.cause
