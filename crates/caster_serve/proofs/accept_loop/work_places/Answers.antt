-- A link more, or none yet.
use Rattle.std.proofs.Common.{◌+◌, ap, arith}
use Rattle.caster_link.specs.Wear.{lacks_in}
use Rattle.caster_serve.proofs.WorkLemmas.{one_more, works_none, works_more, works_idle, worked_all, worked_failed, visited_none, visited_link, visited_idle}
use Rattle.caster_link.proofs.WornLemmas.{stay_both, stay_none}
use Rattle.caster_serve.proofs.accept_loop.work_places.Goals as goal

pub loop-init : goal.loop-init
loop-init g c = record {
  can = tt;
  finite = tt;
  stay = stay_none _ _;
  room = c.requires.room;
  within = c.requires.within;
  count = 0;
  so_many = omega arith;
  works = works_none _ _ _ _ _ _;
  visited = visited_none (g.D.Door.told c.args.door.now);
}

pub returns-then-left-eq0-clause-worked : goal.returns-then-left-eq0-clause-worked
returns-then-left-eq0-clause-worked g c =
    let kept = c.loop.invariant in
    worked_all _ _ _ _ _ _ _ _ _ kept.count _ kept.works kept.visited
    (omega (arith, kept.so_many, c.if-left-eq0.true))

pub returns-in-Failed-clause-worked : goal.returns-in-Failed-clause-worked
returns-in-Failed-clause-worked g c =
    let kept = c.loop.invariant in
    worked_failed g.D.Link.Link.told _ _ _ _ _ _ _ _ _ _ kept.count _ _ kept.works kept.visited
    c.in-Failed.ensures.accepted (omega (arith, kept.so_many))

pub loop-preserved-in-Link : goal.loop-preserved-in-Link
loop-preserved-in-Link g c =
    let kept = c.loop.invariant in
    let one = c.serve_counted.ensures in
    let few = one_more _ _ _ _ _ _ _ _ _ one.counted in
    record {
      can = tt;
      finite = tt;
      stay = stay_both _ _ _ _ _ _ kept.stay one.stay;
      room = omega (arith, few, kept.room, c.if-left-eq0.false);
      within = one.within;
      count = kept.count + 1;
      so_many = omega (arith, kept.so_many, c.if-left-eq0.false);
      works = works_more g.D.Link.Link.told c.in-Link.link _ _ _ _ _ _ _ _ _ _ _ _ _ _ _ kept.count
          (record { same = ap lacks_in one.stay.known; later = one.stay.later }) kept.works c.in-Link.ensures.accepted
          one.counted one.given c.hang_up.ensures.left;
      visited = visited_link g.D.Link.Link.told c.in-Link.link _ _ _ _ _ kept.visited c.in-Link.ensures.accepted
          c.hang_up.ensures.left;
    }

pub loop-preserved : goal.loop-preserved
loop-preserved g c =
    let kept = c.loop.invariant in
    let accepted = c.in-Idle.ensures.accepted in
    record {
      can = tt;
      finite = tt;
      stay = kept.stay;
      room = kept.room;
      within = kept.within;
      count = kept.count;
      so_many = kept.so_many;
      works = works_idle g.D.Link.Link.told _ _ _ _ _ _ _ _ _ _ _ kept.count kept.works accepted c.rest.ensures;
      visited = visited_idle g.D.Link.Link.told _ _ _ _ kept.visited accepted c.rest.ensures;
    }
