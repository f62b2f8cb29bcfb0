-- Pass and note are of this lock.
use Rattle.atomic_table.specs.Seated.{table_id_coded}
use Rattle.turn_log.proofs.lock.parts.Turn.meet.Goals as goal

pub take_in-requires-clause-here : goal.take_in-requires-clause-here
take_in-requires-clause-here g c =
    (table_id_coded.inj _ _ c.requires.pass.0, table_id_coded.inj _ _ c.requires.note)
