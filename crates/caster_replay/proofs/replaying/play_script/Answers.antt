use Rattle.std.proofs.Common.{List, take}
use Rattle.session_script.specs.declared.Event.{Event}
use Rattle.caster_replay.proofs.RunLemmas.{comes_next, stands_next, stands_whole}
use Rattle.caster_replay.proofs.replaying.play_script.Goals as goal

pub play-requires-clause-run : goal.play-requires-clause-run
play-requires-clause-run c = (
  take c.loop-event.event-index c.args.events.now,
  c.loop-event.invariant,
  comes_next c.args.config.now c.args.events.now c.loop-event.event-index c.event-item.result c.requires.script
      c.loop-event-test.true c.event-item.is,
)

pub loop-event-preserved : goal.loop-event-preserved
loop-event-preserved c =
    let so_far : List Event = take c.loop-event.event-index c.args.events.now in
    stands_next c.args.config.now c.args.events.now c.loop-event.event-index c.event-item.result c.play.new.self
    c.loop-event-test.true c.event-item.is
    (c.in-Ok.ensures.played so_far c.loop-event.invariant
    (comes_next c.args.config.now c.args.events.now c.loop-event.event-index c.event-item.result c.requires.script
    c.loop-event-test.true c.event-item.is))

pub returns : goal.returns
returns c =
    stands_whole c.args.config.now c.args.events.now c.loop-event.event-index c.loop-event.run c.loop-event-test.false
    c.loop-event.invariant
