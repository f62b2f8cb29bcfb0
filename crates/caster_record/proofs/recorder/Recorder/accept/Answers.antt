-- The door is asked where a link may come, and nothing happens where none may.
use Rattle.std.proofs.Common.{refl, ap, subst, map, length, arith}
use Rattle.caster_record.specs.Arriving.{HaveCome}
use Rattle.caster_record.proofs.ArriveLemmas.{come_same}
use Rattle.caster_record.proofs.RoundLemmas.{begins_full, rests_same}
use Rattle.caster_record.proofs.recorder.Recorder.accept.Goals as goal

pub returns-then-not-may_ask-clause-begins : goal.returns-then-not-may_ask-clause-begins
returns-then-not-may_ask-clause-begins g c =
    λ before rests.
    begins_full g.D.Link.Link.told c.args.setup.now.config.now c.args.setup.now.limit before (g.D.Door.told c.args.door.now)
    c.args.self.now c.args.links.now.items c.args.torn.now.items
    c.len.result (omega (arith, c.len.ensures, c.args.links.now.ok)) (c.if-not-may_ask.ensures.full refl) rests

pub returns-in_err-reserve-clause-come : goal.returns-in_err-reserve-clause-come
returns-in_err-reserve-clause-come g c =
    come_same g.D.Link.Link.told (g.D.Door.told c.args.door.now) c.args.links.now.items c.reserve.new.self.items
    c.reserve.ensures.items

pub returns-in_err-reserve-2-clause-come : goal.returns-in_err-reserve-2-clause-come
returns-in_err-reserve-2-clause-come g c =
    come_same g.D.Link.Link.told (g.D.Door.told c.args.door.now) c.args.links.now.items c.reserve.new.self.items
    c.reserve.ensures.items

pub ask-requires-clause-rests : goal.ask-requires-clause-rests
ask-requires-clause-rests g c = (
  c.requires.rests.0,
  rests_same g.D.Link.Link.told c.args.setup.now.config.now c.args.setup.now.limit c.requires.rests.0 (g.D.Door.told c.args.door.now)
      c.args.self.now c.args.links.now.items c.reserve.new.self.items c.args.torn.now.items
      c.reserve-2.new.self.items c.reserve.ensures.items c.reserve-2.ensures.items c.requires.rests.1,
)

pub ask-requires-clause-fewer : goal.ask-requires-clause-fewer
ask-requires-clause-fewer g c =
    omega (arith, (c.if-not-may_ask.ensures.open refl).0, c.len.ensures, ap length c.reserve.ensures.items)

pub ask-requires-clause-small : goal.ask-requires-clause-small
ask-requires-clause-small g c = (c.if-not-may_ask.ensures.open refl).1

pub returns-in_err-came-clause-come : goal.returns-in_err-came-clause-come
returns-in_err-came-clause-come g c =
    subst (λ l. HaveCome (g.D.Door.told c.args.door.now) (g.D.Door.told c.ask.new.door) (map g.D.Link.Link.told l)
    (map g.D.Link.Link.told c.ask.new.links.items)) c.reserve.ensures.items c.ask.ensures.come

pub returns-clause-come : goal.returns-clause-come
returns-clause-come g c =
    subst (λ l. HaveCome (g.D.Door.told c.args.door.now) (g.D.Door.told c.ask.new.door) (map g.D.Link.Link.told l)
    (map g.D.Link.Link.told c.ask.new.links.items)) c.reserve.ensures.items c.ask.ensures.come

pub returns-clause-begins : goal.returns-clause-begins
returns-clause-begins g c =
    λ before rests.
    c.in_ok-came.ensures.begins before
    (rests_same g.D.Link.Link.told c.args.setup.now.config.now c.args.setup.now.limit before (g.D.Door.told c.args.door.now)
    c.args.self.now c.args.links.now.items c.reserve.new.self.items c.args.torn.now.items
    c.reserve-2.new.self.items c.reserve.ensures.items c.reserve-2.ensures.items rests)
