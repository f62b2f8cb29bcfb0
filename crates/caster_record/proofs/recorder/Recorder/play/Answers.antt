use Rattle.std.proofs.Common.{◌∙◌, List, length, sym, ap, subst, arith}
use Rattle.session_script.specs.declared.Event.{Event}
use Rattle.session_script.specs.Script.{IsSession}
use Rattle.caster_replay.specs.Kept.{StandsFor}
use Rattle.session_script.specs.Writing.{lines_text}
use Rattle.caster_record.specs.Recording.{kind_of, events_in}
use Rattle.caster_record.proofs.RecordLemmas.{comes, records_more, size_more, line_within}
use Rattle.caster_record.proofs.recorder.Recorder.play.Goals as goal

pub play-requires-clause-run : goal.play-requires-clause-run
play-requires-clause-run c = (
  events_in c.args.self.now,
  c.requires.records.stands,
  comes c.args.config.now (events_in c.args.self.now) c.args.event c.requires.records.session c.requires.next
      (omega (arith, c.requires.records.size, c.requires.room)),
)

pub returns-clause-records : goal.returns-clause-records
returns-clause-records c =
    let config = c.args.config.now in
    let script : List Event = events_in c.args.self.now in
    let event : Event = c.args.event in
    let next = comes config script event c.requires.records.session c.requires.next
    (omega (arith, c.requires.records.size, c.requires.room)) in
    record {
      stands = subst (λ (l : List Event). StandsFor config l c.play.new.self) (sym c.in_ok-push.ensures.events)
          (c.in_ok-play.ensures.played script c.requires.records.stands next);
      session = subst (IsSession (kind_of config)) (sym c.in_ok-push.ensures.events)
          (records_more config script event c.requires.records.session c.requires.next);
      size = size_more script event c.args.self.now.tape.size c.push.new.self.size c.requires.records.size
          c.in_ok-push.ensures.size
          ∙ ap (λ (l : List Event). length (lines_text l)) (sym c.in_ok-push.ensures.events);
    }

pub returns-clause-size : goal.returns-clause-size
returns-clause-size c =
    let within = line_within (kind_of c.args.config.now) c.args.event c.requires.next.own c.requires.next.fits in
    omega (arith, c.in_ok-push.ensures.size, within.0)
