use Rattle.std.proofs.Common.{map}
use Rattle.caster_record.proofs.ArriveLemmas.{come_left}
use Rattle.caster_record.proofs.recording.record.Goals as goal

pub returns-in-Err-clause-left : goal.returns-in-Err-clause-left
returns-in-Err-clause-left g c =
    come_left (g.D.Door.told c.args.door.now) (g.D.Door.told c.session.new.door) (g.D.Door.told c.hang_up_all.new.door)
    (map g.D.Link.Link.told c.session.new.links.items) c.session.ensures.come c.hang_up_all.ensures
