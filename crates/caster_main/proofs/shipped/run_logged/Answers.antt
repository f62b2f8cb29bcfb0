-- What input, files and yard gave is what they logged.
use Rattle.std.proofs.Common.{map, None, Some, refl}
use Rattle.caster_net.specs.Consoles.{console_told}
use Rattle.cast_io.specs.Logged.{door_logged}
use Rattle.caster_top.proofs.DoneLemmas.{done_more}
use Rattle.caster_logged.proofs.LogLemmas.{gave_read, gave_read_file}
use Rattle.caster_logged.proofs.KeepOverLemmas.{keeping_all}
use Rattle.caster_net.specs.Gates.{GateLog}
use Rattle.caster_net.specs.Told.{SinkState}
use Rattle.caster_net.specs.declared.note_out.NoteOut.{NoteOut}
use Rattle.caster_main.specs.Yards.{yard_list}
use Rattle.caster_main.proofs.shipped.run_logged.Goals as goal

pub returns-clause-done : goal.returns-clause-done
returns-clause-done g c zero =
    done_more (λ bytes short gave. gave_read c.args.input.now.log c.caster.new.input.log bytes gave.1)
    (λ path bytes short gave. gave_read_file path c.args.store.now.log c.caster.new.store.log bytes gave.1)
    (c.caster.ensures.call.came.done zero)

pub returns-clause-call : goal.returns-clause-call
returns-clause-call g c = c.caster.ensures.call

pub returns-clause-keeping : goal.returns-clause-keeping
returns-clause-keeping g c = c.caster.ensures.keeping

pub returns-clause-kept_to_its_end : goal.returns-clause-kept_to_its_end
returns-clause-kept_to_its_end g c = c.caster.ensures.kept_to_its_end

pub returns-clause-kept_network_fault : goal.returns-clause-kept_network_fault
returns-clause-kept_network_fault g c = c.caster.ensures.kept_network_fault

pub returns-clause-kept_input : goal.returns-clause-kept_input
returns-clause-kept_input g c = c.caster.ensures.kept_input

pub returns-clause-kept_store : goal.returns-clause-kept_store
returns-clause-kept_store g c = c.caster.ensures.kept_store

pub returns-clause-kept_street : goal.returns-clause-kept_street
returns-clause-kept_street g c = c.caster.ensures.kept_street

pub returns-clause-kept_lodge : goal.returns-clause-kept_lodge
returns-clause-kept_lodge g c = c.caster.ensures.kept_lodge

pub returns-clause-kept : goal.returns-clause-kept
returns-clause-kept g c config addr quiet are =
    let before = c.args.street.now.yard in
    let after = c.caster.new.street.yard in
    keeping_all (λ (gate : GateLog). door_logged gate.door) (λ (gate : GateLog). gate.over)
    (λ (gate : GateLog). gate.peer) (λ (gate : GateLog). gate.origin)
    (λ (notes : SinkState NoteOut). Some notes.taken) (λ (notes : SinkState NoteOut). notes.faults)
    (λ (gate : GateLog). gate.door) (λ (notes : SinkState NoteOut). notes.taken) (λ gate. refl) (λ notes. refl)
    (map console_told c.args.lodge.now.back) (map console_told c.caster.new.lodge.back) None
    c.args.store.now.log c.caster.new.store.log config addr quiet
    (yard_list before) (yard_list after)
    before.faults before.note_faults after.faults after.note_faults _ c.args.out.now.taken c.caster.new.out.taken
    c.args.out.now.faults c.caster.new.out.faults _ (c.caster.ensures.keeping config addr quiet are)
