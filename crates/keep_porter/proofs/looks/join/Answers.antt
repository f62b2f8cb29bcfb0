-- The place at which is joined changes as a turn changes it, and the others do not change.
use Rattle.std.proofs.Common.{Bool, ◌∷◌, [], get_or, sym, subst}
use Rattle.mount_ring.specs.declared.call.RingCall.TheVariants.{Join}
use Rattle.mount_ring.specs.declared.call.RingAnswer.TheVariants.{Joined}
use Rattle.turn_log.specs.Heard.{Heard}
use Rattle.turn_log.specs.Faults.{IsFault}
use Rattle.turn_log.proofs.HeardLaws.{heard_turn}
use Rattle.session_calls.proofs.PlaceLemmas.{among_by_one, kept_by_one, ring_answer, went_turn}
use Rattle.rover_session.proofs.AtLemmas.{stay_by_one}
use Rattle.keep_porter.proofs.LookLemmas.{fits_first}
use Rattle.keep_porter.proofs.looks.join.Goals as goal

pub returns-in-Ok-Joined-clause-stay : goal.returns-in-Ok-Joined-clause-stay
returns-in-Ok-Joined-clause-stay g c =
    stay_by_one g.T.Turns c.args.places.now c.args.mount c.index-places-mount.result c.turn.new.self
    c.turn.ensures.same c.turn.ensures.worn

pub returns-in-Err-clause-stay : goal.returns-in-Err-clause-stay
returns-in-Err-clause-stay g c =
    stay_by_one g.T.Turns c.args.places.now c.args.mount c.index-places-mount.result c.turn.new.self
    c.turn.ensures.same c.turn.ensures.worn

pub returns-in-Ok-Joined-clause-went : goal.returns-in-Ok-Joined-clause-went
returns-in-Ok-Joined-clause-went g c =
    let d = c.index-places-mount.result in
    let place = get_or c.args.places.now c.args.mount d in
    went_turn g.T.Turns.shape g.T.Turns.alone g.T.Turns.seen c.args.places.now c.args.mount d c.turn.new.self c.args.me
    (Join 0) (Joined c.in-Ok-Joined.cursor) c.requires.within
    (subst (λ answer. Heard (g.T.Turns.alone place) (ring_answer (g.T.Turns.shape place)) (g.T.Turns.seen place)
    (g.T.Turns.seen c.turn.new.self) c.args.me ((Join 0, answer) ∷ [])) c.in-Ok-Joined.field-0-is
    (heard_turn c.in-Ok-Joined.ensures.ok))

pub returns-in-Err-clause-err : goal.returns-in-Err-clause-err
returns-in-Err-clause-err g c =
    kept_by_one g.T.Turns.seen c.args.places.now c.args.mount c.index-places-mount.result c.turn.new.self
    c.in-Err.ensures.err.0

pub returns-in-Err-clause-fault : goal.returns-in-Err-clause-fault
returns-in-Err-clause-fault g c =
    among_by_one (λ place. IsFault (g.T.Turns.may_lack place) (g.T.Turns.worn place) c.in-Err.fault)
    c.args.places.now c.args.mount c.turn.new.self c.requires.within
    (subst (λ (may_lack : Bool). IsFault may_lack (g.T.Turns.worn c.turn.new.self) c.in-Err.fault)
    (sym c.turn.ensures.same.2) c.in-Err.ensures.err.2)

pub turn-requires-clause-fits : goal.turn-requires-clause-fits
turn-requires-clause-fits g c =
    fits_first g.T.Turns.shape c.args.places.now c.args.mount c.index-places-mount.result c.requires.within
    c.requires.filter
