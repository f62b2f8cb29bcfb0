-- the run stands for the events that were played
use Rattle.std.proofs.Common.{take}
use Rattle.caster_replay.specs.Kept.{StandsFor}
use Rattle.caster_replay.proofs.replaying.play_script.Given as goal

abbrev pub invariant-loop-event : goal.invariant-loop-event
invariant-loop-event l = StandsFor l.config (take l.event-index l.events) l.run
