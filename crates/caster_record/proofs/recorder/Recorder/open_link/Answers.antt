use Rattle.std.proofs.Common.{arith}
use Rattle.caster_record.proofs.RoundLemmas.{begins_with}
use Rattle.caster_record.proofs.recorder.Recorder.open_link.Goals as goal

pub returns-clause-begins : goal.returns-clause-begins
returns-clause-begins g c =
    λ before door later rests accepted.
    begins_with g.L.Link.told c.args.setup.now.config.now c.args.setup.now.limit c.len.result before door later c.args.self.now
    c.play.new.self c.args.links.now.items c.push_reserved.new.self.items c.args.torn.now.items
    c.push_reserved-2.new.self.items c.args.link rests accepted c.requires.fresh c.requires.fewer c.requires.limit
    c.requires.small c.in_ok-play.ensures.records c.push_reserved.ensures.items c.push_reserved-2.ensures.items
    (omega (arith, c.len.ensures, c.push_reserved.new.self.ok)) c.in_ok-play.ensures.events
    c.in_ok-play.ensures.sends (omega (arith, c.in_ok-play.ensures.size, c.requires.small))
