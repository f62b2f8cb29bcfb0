use Rattle.std.proofs.Common.{◌≡◌, ◌∙◌, ℕ, List, [], map, refl, sym, ap, subst, Option, Ok}
use Rattle.turn_log.specs.History.{History}
use Rattle.mount_ring.specs.declared.call.RingCall.{RingCall}
use Rattle.mount_ring.specs.declared.shape.RingShape.{RingShape}
use Rattle.rover_session.specs.Standing.{IsResumable, Told, frames_sent}
use Rattle.session_model.specs.declared.ending.Ending.{Ending}
use Rattle.session_core.specs.declared.session_stage.SessionStage.TheVariants as stages
use Rattle.session_model.specs.Setting.{shapes}
use Rattle.session_model.specs.Judged.{rover_judged}
use Rattle.session_core.specs.Beginnings.{ended_joining}
use Rattle.session_core.specs.Begun.{BeginsFor}
use Rattle.session_core.proofs.EnteredLemmas.{begins_entered, cause_halted, told_as}
use Rattle.session_core.proofs.rovers.join.Goals as goal

pub returns-clause-begins : goal.returns-clause-begins
returns-clause-begins g c = λ config alone old now me a shaped from before after entered.
    let slice = c.args.rings.now in
    let new = c.start-joined.new.places in
    let session = c.start-joined.new.self in
    let start = c.start-joined.ensures in
    let halts : c.halt_of.result ≡ ended_joining session.halt = c.halt_of.ensures ∙ ap ended_joining (sym start.halt) in
    subst (λ (e : Option Ending). BeginsFor config alone old now me (rover_judged c.args.version c.args.first [] (Ok a))
    (stages.Rover c.args.account session) e c.args.out.now.items c.push_reply.new.out.items) (sym halts)
    (subst (λ (n : ℕ). BeginsFor config alone old now me (rover_judged c.args.version c.args.first [] (Ok a))
    (stages.Rover n session) (ended_joining session.halt) c.args.out.now.items c.push_reply.new.out.items)
    entered.account_is
    (begins_entered config alone old now me
    (record { version = c.args.version; admission = a; first = c.args.first }) session
    c.args.out.now.items c.push_reply.new.out.items entered.entered entered.inside
    (subst (λ (h : List (History RingCall)). Told (shapes config) alone old.rings h session c.args.first [] []) after
    (subst (λ (h : List (History RingCall)). Told (shapes config) alone h (map g.T.Turns.seen new) session
    c.args.first [] []) before
    (told_as g.T.Turns.shape g.T.Turns.alone g.T.Turns.seen config alone slice slice new session c.args.first refl
    shaped from start.told)))
    (start.admission.1 ∙ entered.caller) (start.admission.2 ∙ entered.terms_are)
    (start.admission.0 ∙ entered.version_is)
    (subst (λ (m : ℕ). IsResumable (shapes config) m now.rings session.segments) entered.caller
    (subst (λ (h : List (History RingCall)). IsResumable (shapes config) c.args.session.me h session.segments) after
    (subst (λ (s : List RingShape). IsResumable s c.args.session.me (map g.T.Turns.seen new) session.segments) shaped
    start.sent.resumable)))
    (subst (λ (h : List (History RingCall)). frames_sent (shapes config) h session.segments ≡ []) after
    (subst (λ (s : List RingShape). frames_sent s (map g.T.Turns.seen new) session.segments ≡ []) shaped
    start.sent.sent))
    c.push_reply.ensures))

pub returns-clause-cause : goal.returns-clause-cause
returns-clause-cause g c =
    cause_halted (map g.T.Turns.worn c.start-joined.new.places) c.start-joined.result c.halt_of.result c.halt_of.ensures
    c.start-joined.ensures.cause
