-- Where the door is asked, a link comes or nobody does.
use Rattle.std.proofs.Common.{refl}
use Rattle.cast_io.specs.declared.door.Arrived.TheVariants as arrived
use Rattle.caster_record.proofs.ArriveLemmas.{come_kept, come_pushed}
use Rattle.caster_record.proofs.RoundLemmas.{begins_without}
use Rattle.caster_record.proofs.recorder.Recorder.ask.Goals as goal

pub open_link-requires-clause-rests : goal.open_link-requires-clause-rests
open_link-requires-clause-rests g c =
    (c.requires.rests.0, g.D.Door.told c.args.door.now, c.requires.rests.1)

pub returns-in_err-open_link-in-Link-clause-come : goal.returns-in_err-open_link-in-Link-clause-come
returns-in_err-open_link-in-Link-clause-come g c =
    come_pushed g.D.Link.Link.told c.in-Link.link (g.D.Door.told c.args.door.now) (g.D.Door.told c.accept.new.self)
    c.args.links.now.items c.args.links.now.items c.open_link.new.links.items refl
    c.open_link.ensures.pushed c.in-Link.ensures.accepted

pub returns-in_ok-open_link-in-Link-clause-come : goal.returns-in_ok-open_link-in-Link-clause-come
returns-in_ok-open_link-in-Link-clause-come g c =
    come_pushed g.D.Link.Link.told c.in-Link.link (g.D.Door.told c.args.door.now) (g.D.Door.told c.accept.new.self)
    c.args.links.now.items c.args.links.now.items c.open_link.new.links.items refl
    c.open_link.ensures.pushed c.in-Link.ensures.accepted

pub returns-in_ok-open_link-in-Link-clause-begins : goal.returns-in_ok-open_link-in-Link-clause-begins
returns-in_ok-open_link-in-Link-clause-begins g c =
    λ before rests.
    c.in_ok-open_link-in-Link.ensures.begins before (g.D.Door.told c.args.door.now) (g.D.Door.told c.accept.new.self) rests
    c.in-Link.ensures.accepted

pub returns-in-Idle-clause-come : goal.returns-in-Idle-clause-come
returns-in-Idle-clause-come g c =
    come_kept g.D.Link.Link.told arrived.Idle (g.D.Door.told c.args.door.now) (g.D.Door.told c.accept.new.self)
    c.args.links.now.items c.args.links.now.items refl refl c.in-Idle.ensures.accepted

pub returns-in-Idle-clause-begins : goal.returns-in-Idle-clause-begins
returns-in-Idle-clause-begins g c =
    λ before rests.
    begins_without g.D.Link.Link.told c.args.setup.now.config.now c.args.setup.now.limit before (g.D.Door.told c.args.door.now)
    (g.D.Door.told c.accept.new.self) c.args.self.now c.args.links.now.items c.args.torn.now.items
    c.requires.fewer c.requires.small c.in-Idle.ensures.accepted rests

pub returns-in-Failed-clause-come : goal.returns-in-Failed-clause-come
returns-in-Failed-clause-come g c =
    come_kept g.D.Link.Link.told arrived.Failed (g.D.Door.told c.args.door.now) (g.D.Door.told c.accept.new.self)
    c.args.links.now.items c.args.links.now.items refl refl c.in-Failed.ensures.accepted
