-- A line was put behind those of others.
use Rattle.caster_press.proofs.PlaceLemmas.{put_one}
use Rattle.caster_press.proofs.place.SeatPressAtPress.put.Goals as goal

pub returns-in-Ok-clause-put : goal.returns-in-Ok-clause-put
returns-in-Ok-clause-put g c =
    let turned = c.in-Ok.ensures.ok in put_one _ _ turned.others _ _ turned.none_of_mine turned.seen
