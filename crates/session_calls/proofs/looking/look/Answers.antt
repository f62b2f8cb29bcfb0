-- The place at which the look is made changes as a turn changes it, and the others do not change.
use Rattle.std.proofs.Common.{Bool, ◌∷◌, [], get_or, sym, subst}
use Rattle.mount_ring.specs.declared.call.RingCall.TheVariants.{Look}
use Rattle.mount_ring.specs.declared.call.RingAnswer.TheVariants.{Looked}
use Rattle.turn_log.specs.Heard.{Heard}
use Rattle.turn_log.specs.Faults.{IsFault}
use Rattle.turn_log.proofs.HeardLaws.{heard_turn}
use Rattle.session_calls.proofs.PlaceLemmas.{kept_by_one, later_by_one, among_by_one, went_turn, ring_answer}
use Rattle.session_calls.proofs.looking.look.Goals as goal

pub returns-in-Ok-Looked-clause-same : goal.returns-in-Ok-Looked-clause-same
returns-in-Ok-Looked-clause-same g c =
    let places = c.args.places.now in let mount = c.args.mount in
    let d = c.index-places-mount.result in let new = c.turn.new.self in let same = c.turn.ensures.same in (
      kept_by_one g.T.Turns.shape places mount d new same.0,
      kept_by_one g.T.Turns.speaks places mount d new same.1,
      kept_by_one g.T.Turns.may_lack places mount d new same.2,
      kept_by_one g.T.Turns.alone places mount d new same.3,
      kept_by_one g.T.Turns.home places mount d new same.4,
    )

pub returns-in-Ok-Looked-clause-worn : goal.returns-in-Ok-Looked-clause-worn
returns-in-Ok-Looked-clause-worn g c =
    later_by_one g.T.Turns.worn c.args.places.now c.args.mount c.index-places-mount.result c.turn.new.self
    c.turn.ensures.worn

pub returns-in-Err-clause-same : goal.returns-in-Err-clause-same
returns-in-Err-clause-same g c =
    let places = c.args.places.now in let mount = c.args.mount in
    let d = c.index-places-mount.result in let new = c.turn.new.self in let same = c.turn.ensures.same in (
      kept_by_one g.T.Turns.shape places mount d new same.0,
      kept_by_one g.T.Turns.speaks places mount d new same.1,
      kept_by_one g.T.Turns.may_lack places mount d new same.2,
      kept_by_one g.T.Turns.alone places mount d new same.3,
      kept_by_one g.T.Turns.home places mount d new same.4,
    )

pub returns-in-Err-clause-worn : goal.returns-in-Err-clause-worn
returns-in-Err-clause-worn g c =
    later_by_one g.T.Turns.worn c.args.places.now c.args.mount c.index-places-mount.result c.turn.new.self
    c.turn.ensures.worn

pub returns-in-Ok-Looked-clause-went : goal.returns-in-Ok-Looked-clause-went
returns-in-Ok-Looked-clause-went g c =
    let d = c.index-places-mount.result in
    let place = get_or c.args.places.now c.args.mount d in
    went_turn g.T.Turns.shape g.T.Turns.alone g.T.Turns.seen c.args.places.now c.args.mount d c.turn.new.self c.args.me
    Look (Looked c.in-Ok-Looked.live) c.requires.within
    (subst (λ answer. Heard (g.T.Turns.alone place) (ring_answer (g.T.Turns.shape place)) (g.T.Turns.seen place)
    (g.T.Turns.seen c.turn.new.self) c.args.me ((Look, answer) ∷ [])) c.in-Ok-Looked.field-0-is
    (heard_turn c.in-Ok-Looked.ensures.ok))

pub returns-in-Err-clause-err : goal.returns-in-Err-clause-err
returns-in-Err-clause-err g c =
    kept_by_one g.T.Turns.seen c.args.places.now c.args.mount c.index-places-mount.result c.turn.new.self
    c.in-Err.ensures.err.0

pub returns-in-Err-clause-fault : goal.returns-in-Err-clause-fault
returns-in-Err-clause-fault g c =
    among_by_one (λ place. IsFault (g.T.Turns.may_lack place) (g.T.Turns.worn place) c.in-Err.fault)
    c.args.places.now c.args.mount c.turn.new.self c.requires.within
    (subst (λ (may_lack : Bool). IsFault may_lack (g.T.Turns.worn c.turn.new.self) c.in-Err.fault)
    (sym c.turn.ensures.same.2) c.in-Err.ensures.err.2)
