use Rattle.std.proofs.Common.{◌∙◌, ◌++◌, ℕ, suc, List, [], take, drop, ap}
use Rattle.std.proofs.lemmas.List.{take_all}
use Rattle.session_script.specs.declared.Event.{Event}
use Rattle.cast_config.specs.declared.config.Config.{Config}
use Rattle.session_model.specs.Run.{after_events}
use Rattle.caster_replay.proofs.RunLemmas.{comes_next, stands_next, stands_whole}
use Rattle.caster_warm.specs.Parts.{part_to}
use Rattle.caster_warm.specs.Warm.{sent_by_events}
use Rattle.caster_warm.proofs.PartLemmas.{headings_at, sent_next}
use Rattle.caster_warm.proofs.warming.play_all.Goals as goal

pub play_part-requires-clause-run : goal.play_part-requires-clause-run
play_part-requires-clause-run c = (
  take c.loop-event.event-index c.args.events.now,
  c.loop-event.invariant.stands,
  comes_next c.args.config.now c.args.events.now c.loop-event.event-index c.event-item.result c.requires.script
      c.loop-event-test.true c.event-item.is,
)

pub loop-event-preserved : goal.loop-event-preserved
loop-event-preserved c =
    let config : Config = c.args.config.now in
    let events : List Event = c.args.events.now in
    let i : ℕ = c.loop-event.event-index in
    let event : Event = c.event-item.result in
    let before = c.loop-event.invariant in
    let comes = comes_next config events i event c.requires.script c.loop-event-test.true c.event-item.is in
    record {
      stands = stands_next config events i event c.play_part.new.run c.loop-event-test.true c.event-item.is
          (c.in_ok-part.ensures.played (take i events) before.stands comes);
      sent = λ headings n are.
          c.in_ok-add_part.ensures n
          ∙ ap (λ (l : List ℕ). l ++ part_to n c.in_ok-part.part) (before.sent headings n are)
          ∙ ap (λ (l : List ℕ).
          sent_by_events config headings (after_events config headings []) (take i events) n ++ l)
          (c.in_ok-part.ensures.part (take i events) (drop (suc i) events) headings n before.stands comes
          (headings_at headings events i event c.loop-event-test.true c.event-item.is are))
          ∙ sent_next config headings events i event n c.loop-event-test.true c.event-item.is;
    }

pub returns-clause-stands : goal.returns-clause-stands
returns-clause-stands c =
    stands_whole c.args.config.now c.args.events.now c.loop-event.event-index c.loop-event.run c.loop-event-test.false
    c.loop-event.invariant.stands

pub returns-clause-sent : goal.returns-clause-sent
returns-clause-sent c = λ headings n are.
    c.loop-event.invariant.sent headings n are
    ∙ ap (λ (l : List Event).
    sent_by_events c.args.config.now headings (after_events c.args.config.now headings []) l n)
    (take_all c.loop-event.event-index c.args.events.now c.loop-event-test.false)
