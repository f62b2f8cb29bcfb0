use Rattle.caster_warm.proofs.parts.sent_behind.Goals as goal

pub sent-requires : goal.sent-requires
sent-requires c = record { run = c.requires.run }
