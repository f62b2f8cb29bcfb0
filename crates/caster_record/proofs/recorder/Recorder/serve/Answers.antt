use Rattle.caster_record.proofs.StepLemmas.{step_served}
use Rattle.caster_record.proofs.recorder.Recorder.serve.Goals as goal

pub returns-clause-served : goal.returns-clause-served
returns-clause-served g c =
    let told = g.L.Link.told in
    step_served c.args.config.now c.args.number c.sent_length-from.result (told c.args.link.now) (told c.hear.new.link)
    (told c.give_from-torn.new.link) c.args.self.now c.take_in.new.self c.turn_if_behind.new.self
    c.break_if_torn.new.self
    c.in_ok-heard.heard c.in_ok-turn_if_behind.field-0 c.in_ok-break_if_torn.field-0 c.give_from-torn.result
    c.requires.goes_on c.sent_length-from.ensures c.in_ok-heard.ensures.heard c.in_ok-take_in.ensures.events
    c.in_ok-take_in.ensures.sends c.in_ok-turn_if_behind.ensures.behind c.in_ok-turn_if_behind.ensures.events
    c.in_ok-turn_if_behind.ensures.sends c.give_from-torn.ensures c.in_ok-break_if_torn.ensures.going
    c.in_ok-break_if_torn.ensures.events c.in_ok-break_if_torn.ensures.silent
