use Rattle.std.proofs.Common.{◌+◌, ◌++◌, [], ◌∷◌, ap, ◌∙◌}
use Rattle.rtcm_frame.specs.Transport.{framed}
use Rattle.session_script.specs.declared.Event.TheVariants.{Turn}
use Rattle.session_make.proofs.RoundLemmas.{round_is, rover_is, budget_is, round_ends}
use Rattle.session_make.proofs.making.push_round.Goals as goal

pub returns-clause-events : goal.returns-clause-events
returns-clause-events c =
    let start = c.args.draws.now.state in
    let now = c.draw_payload.new.draws.state in
    let then = c.draw-rover.new.self.state in
    let last = c.draw-budget.new.self.state in
    let rover = 2 + c.draw-rover.result in
    let budget = 1 + c.draw-budget.result in
    c.in_ok-push-2.ensures.items
    ∙ ap (λ xs. xs ++ Turn rover budget ∷ []) c.in_ok-push.ensures.items
    ∙ round_is c.args.rovers start rover budget c.in_ok-payload.payload.items
    c.in_ok-of.field-0 c.args.events.now.items
    c.in_ok-payload.ensures.bytes
    (c.in_ok-of.ensures ∙ c.deref-2.ensures.value ∙ c.in_ok-frame.ensures
    ∙ ap (λ p. framed 0 p) c.deref.ensures.value)
    (rover_is c.args.rovers start now then c.draw-rover.result
    c.in_ok-payload.ensures.state c.draw-rover.ensures.state c.draw-rover.ensures.number)
    (budget_is start now then last c.draw-budget.result c.in_ok-payload.ensures.state
    c.draw-rover.ensures.state c.draw-budget.ensures.state c.draw-budget.ensures.number)

pub returns-clause-state : goal.returns-clause-state
returns-clause-state c =
    round_ends c.args.draws.now.state c.draw_payload.new.draws.state
    c.draw-rover.new.self.state c.draw-budget.new.self.state
    c.in_ok-payload.ensures.state c.draw-rover.ensures.state c.draw-budget.ensures.state
