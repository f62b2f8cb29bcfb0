-- The pass is of this lock.
use Rattle.atomic_table.specs.Seated.{table_id_coded}
use Rattle.turn_log.proofs.lock.parts.Turn.seat.Goals as goal

pub invariant_of-result : goal.invariant_of-result
invariant_of-result g c = record { here = table_id_coded.inj _ _ c.requires.0 }
