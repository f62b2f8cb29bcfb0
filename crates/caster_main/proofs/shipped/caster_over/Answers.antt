-- What was done, said of each command.
use Rattle.std.proofs.Common.{map, None, Some, refl}
use Rattle.caster_net.specs.Consoles.{console_told}
use Rattle.cast_io.specs.Logged.{door_logged}
use Rattle.caster_top.specs.Given.{FileCame}
use Rattle.caster_logged.proofs.CompleteLemmas.{keeping_ends}
use Rattle.caster_net.specs.Gates.{GateLog}
use Rattle.caster_net.specs.Told.{SinkState}
use Rattle.caster_net.specs.declared.note_out.NoteOut.{NoteOut}
use Rattle.caster_main.specs.Yards.{yard_list}
use Rattle.caster_logged.proofs.OverLemmas.{over_report, over_config, over_played, over_served, over_recorded}
use Rattle.caster_logged.proofs.RunLemmas.{fetched_logged}
use Rattle.caster_logged.proofs.KeepOverLemmas.{kept_whole}
use Rattle.caster_main.proofs.shipped.caster_over.Goals as goal

pub returns-clause-call : goal.returns-clause-call
returns-clause-call g c = c.run_logged.ensures.call

pub returns-clause-report : goal.returns-clause-report
returns-clause-report g c zero = over_report (c.run_logged.ensures.done zero)

pub returns-clause-over_config : goal.returns-clause-over_config
returns-clause-over_config g c zero = over_config (c.run_logged.ensures.done zero)

pub returns-clause-played : goal.returns-clause-played
returns-clause-played g c zero = over_played (c.run_logged.ensures.done zero)

pub returns-clause-made : goal.returns-clause-made
returns-clause-made g c = c.run_logged.ensures.call.reports.made

pub returns-clause-served : goal.returns-clause-served
returns-clause-served g c zero =
    over_served _ _ _ c.args.street.now.street c.run_logged.new.street.street
    c.args.out.now.taken c.run_logged.new.out.taken (c.run_logged.ensures.done zero)

pub returns-clause-recorded : goal.returns-clause-recorded
returns-clause-recorded g c zero =
    over_recorded _ _ _ c.args.street.now.street c.run_logged.new.street.street
    c.args.out.now.taken c.run_logged.new.out.taken (c.run_logged.ensures.done zero)

pub returns-clause-fetched : goal.returns-clause-fetched
returns-clause-fetched g c is frames targets are =
    fetched_logged frames targets c.args.street.now.street c.run_logged.new.street.street c.args.out.now.taken
    c.run_logged.new.out.taken _ (c.run_logged.ensures.call.fetches.fetched is frames targets are)

pub returns-clause-kept : goal.returns-clause-kept
returns-clause-kept g c = c.run_logged.ensures.kept

pub returns-clause-kept_whole : goal.returns-clause-kept_whole
returns-clause-kept_whole g c zero config addr quiet are =
    kept_whole zero (c.run_logged.ensures.kept config addr quiet are)

pub returns-clause-keeping : goal.returns-clause-keeping
returns-clause-keeping g c = c.run_logged.ensures.keeping

pub returns-clause-kept_to_its_end : goal.returns-clause-kept_to_its_end
returns-clause-kept_to_its_end g c = c.run_logged.ensures.kept_to_its_end

pub returns-clause-keep_complete : goal.returns-clause-keep_complete
returns-clause-keep_complete g c config addr quiet are gives whole store yard output =
    let before = c.args.street.now.yard in
    let after = c.run_logged.new.street.yard in
    keeping_ends (λ (gate : GateLog). door_logged gate.door) (λ (gate : GateLog). gate.over)
    (λ (gate : GateLog). gate.peer) (λ (gate : GateLog). gate.origin)
    (λ (notes : SinkState NoteOut). Some notes.taken) (λ (notes : SinkState NoteOut). notes.faults)
    (λ (gate : GateLog). gate.door) (λ (notes : SinkState NoteOut). notes.taken) (λ gate. refl) (λ notes. refl)
    (FileCame None (Some c.args.store.now.log) (Some c.run_logged.new.store.log)) config addr quiet
    (yard_list before) (yard_list after) before.faults before.note_faults after.faults after.note_faults
    (map console_told c.args.lodge.now.back) (map console_told c.run_logged.new.lodge.back) _ c.args.out.now.taken c.run_logged.new.out.taken
    c.args.out.now.faults c.run_logged.new.out.faults _ (c.run_logged.ensures.keeping config addr quiet are)
    gives whole store yard output

pub returns-clause-kept_network_fault : goal.returns-clause-kept_network_fault
returns-clause-kept_network_fault g c = c.run_logged.ensures.kept_network_fault

pub returns-clause-kept_input : goal.returns-clause-kept_input
returns-clause-kept_input g c = c.run_logged.ensures.kept_input

pub returns-clause-kept_store : goal.returns-clause-kept_store
returns-clause-kept_store g c = c.run_logged.ensures.kept_store

pub returns-clause-kept_street : goal.returns-clause-kept_street
returns-clause-kept_street g c = c.run_logged.ensures.kept_street

pub returns-clause-kept_lodge : goal.returns-clause-kept_lodge
returns-clause-kept_lodge g c = c.run_logged.ensures.kept_lodge
