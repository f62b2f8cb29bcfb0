-- A note is cut off from a pass that rests.
use Rattle.std.proofs.Common.{arith}
use Rattle.atomic_table.specs.Seated.{table_id_coded}
use Rattle.turn_log.proofs.LockSeats.{notes}
use Rattle.turn_log.proofs.lock.parts.Turn.note.Goals as goal

pub split_seat-requires : goal.split_seat-requires
split_seat-requires g c =
    let key = c.args.self.now.table.shared.key in (
      table_id_coded.inj _ _ c.requires.0,
      omega (arith, c.args.self.now.sized.0),
      notes key.passes g.V.Played.stands g.V.Played.shape g.V.Played.fits (g.V.Played.shape key.value.value)
          _ _ c.args.pass.now.rests.0,
    )
