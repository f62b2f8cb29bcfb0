use Rattle.std.proofs.Common.{map, refl}
use Rattle.caster_record.proofs.ArriveLemmas.{come_both, come_none}
use Rattle.caster_record.proofs.recording.run.Goals as goal

pub loop-init : goal.loop-init
loop-init g c =
    let links = map g.D.Link.Link.told c.args.links.now.items in
    record {
      can = tt;
      finite = tt;
      rests = c.requires.rests;
      come = come_none (g.D.Door.told c.args.door.now) links links refl;
    }

pub round-requires-clause-rests : goal.round-requires-clause-rests
round-requires-clause-rests g c = (g.D.Door.told c.args.door.now, c.loop.invariant.rests)

pub returns-in_err-round-clause-come : goal.returns-in_err-round-clause-come
returns-in_err-round-clause-come g c =
    let told = map g.D.Link.Link.told in
    come_both (g.D.Door.told c.args.door.now) (g.D.Door.told c.loop.door) (g.D.Door.told c.round.new.door)
    (told c.args.links.now.items) (told c.loop.links.items) (told c.round.new.links.items) c.loop.invariant.come
    c.round.ensures.come

pub loop-preserved : goal.loop-preserved
loop-preserved g c =
    let told = map g.D.Link.Link.told in
    record {
      can = tt;
      finite = tt;
      rests = c.in_ok-round.ensures.rests (g.D.Door.told c.args.door.now) c.loop.invariant.rests;
      come = come_both (g.D.Door.told c.args.door.now) (g.D.Door.told c.loop.door) (g.D.Door.told c.round.new.door)
          (told c.args.links.now.items) (told c.loop.links.items) (told c.round.new.links.items)
          c.loop.invariant.come c.round.ensures.come;
    }
