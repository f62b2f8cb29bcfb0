use Rattle.std.proofs.Common.{List, [], map, sym, ap, subst}
use Rattle.session_script.specs.declared.Event.{Event}
use Rattle.caster_record.specs.Arriving.{given_in}
use Rattle.caster_record.specs.Recorded.{IsRecorded}
use Rattle.caster_record.proofs.ArriveLemmas.{come_none}
use Rattle.caster_record.proofs.EndLemmas.{rests_first, recorded}
use Rattle.caster_record.proofs.recording.session.Goals as goal

pub returns-in_err-recorder-clause-come : goal.returns-in_err-recorder-clause-come
returns-in_err-recorder-clause-come g c =
    come_none (g.D.Door.told c.args.door.now) [] (map g.D.Link.Link.told c.args.links.now.items)
    (ap (λ l. given_in (map g.D.Link.Link.told l)) c.requires.empty)

pub run-requires-clause-rests : goal.run-requires-clause-rests
run-requires-clause-rests g c =
    rests_first g.D.Link.Link.told c.args.config.now c.args.limit (g.D.Door.told c.args.door.now)
    c.in_ok-recorder.recorder c.args.links.now.items c.new-torn.result.items c.requires.empty c.new-torn.ensures.items c.in_ok-recorder.ensures.records
    c.in_ok-recorder.ensures.events c.in_ok-recorder.ensures.unsent

pub finish_run-requires-clause-records : goal.finish_run-requires-clause-records
finish_run-requires-clause-records g c = c.in_ok-run.ensures.rests.keeps.records

pub finish_run-requires-clause-bound : goal.finish_run-requires-clause-bound
finish_run-requires-clause-bound g c = c.in_ok-run.ensures.rests.keeps.bound

pub returns-clause-recorded : goal.returns-clause-recorded
returns-clause-recorded g c =
    let told = c.in_ok-told.told in
    let links = map g.D.Link.Link.told c.run.new.links.items in
    let before = g.D.Door.told c.args.door.now in
    let door = g.D.Door.told c.run.new.door in
    subst (λ (l : List Event). IsRecorded c.args.config.now c.args.limit before door l told.report links)
    (sym c.in_ok-told.ensures.events)
    (recorded g.D.Link.Link.told c.args.config.now c.args.limit before door c.run.new.recorder c.run.new.links.items
    c.run.new.torn.items told.report c.in_ok-run.ensures.rests c.in_ok-told.ensures.report
    c.in_ok-told.ensures.sent c.in_ok-run.ensures.ended)

pub returns-clause-calm : goal.returns-clause-calm
returns-clause-calm g c = c.in_ok-run.ensures.rests.calm
