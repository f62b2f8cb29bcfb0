-- All served, and left.
use Rattle.std.proofs.Common.{◌∙◌, length, map, ap, arith}
use Rattle.std.specs.List.{list_all}
use Rattle.caster_serve.specs.Endpoints.{end_told}
use Rattle.caster_serve.specs.Serving.{task_told}
use Rattle.caster_serve.proofs.CallingLemmas.{have_called, have_room, may_serve, new_served}
use Rattle.caster_seats.proofs.SittingLemmas.{less_room}
use Rattle.caster_serve.proofs.callers.serve_tasks.Goals as goal

pub serve_hands-requires-clause-fit : goal.serve_hands-requires-clause-fit
serve_hands-requires-clause-fit g c κs within =
    rw c.config.ensures
    (may_serve g.D.Door.told g.L.Link.told _ c.args.shared.now _ c.args.limit c.args.tasks.now.items
    c.in_ok-hands.hands.items c.table.ensures c.requires.ready c.ranges.limit.fits c.requires.kinds
    c.requires.unused c.requires.unserved c.in_ok-hands.ensures.seated)

pub leave_all-requires-clause-room : goal.leave_all-requires-clause-room
leave_all-requires-clause-room g c κs within =
    omega (
      arith,
      c.in_ok-hands.ensures.space,
      c.in_ok-hands.ensures.count,
      c.serve_hands.ensures.size,
      c.requires.size,
      ap length c.in_ok-hands.ensures.taken,
      c.sit_all.new.works.ok.0,
      c.args.tasks.now.ok.0,
      c.args.tasks.now.ok.1,
    )

pub leave_all-requires-clause-spare : goal.leave_all-requires-clause-spare
leave_all-requires-clause-spare g c κs within =
    less_room (length c.args.passes.items) _ _
    (omega (arith, c.in_ok-hands.ensures.count, c.serve_hands.ensures.size)) c.requires.room

pub leave_all-requires-clause-places : goal.leave_all-requires-clause-places
leave_all-requires-clause-places g c κs within =
    let shared = c.args.shared.now in
    let served = new_served g.D.Door.told g.L.Link.told _ shared c.args.limit c.args.tasks.now.items
    c.in_ok-hands.hands.items c.serve_hands.new.hands.items c.requires.unused c.requires.unserved
    c.in_ok-hands.ensures.seated (rw c.config.ensures at c.serve_hands.ensures.served) in
    have_room (task_told g.D.Door.told g.L.Link.told) _ _ shared c.args.limit
    (map (end_told g.D.Door.told g.L.Link.told) c.args.tasks.now.items) c.serve_hands.new.hands.items
    c.requires.empty.size served

pub returns-clause-called : goal.returns-clause-called
returns-clause-called g c =
    let shared = c.args.shared.now in
    let served = new_served g.D.Door.told g.L.Link.told _ shared c.args.limit c.args.tasks.now.items
    c.in_ok-hands.hands.items c.serve_hands.new.hands.items c.requires.unused c.requires.unserved
    c.in_ok-hands.ensures.seated (rw c.config.ensures at c.serve_hands.ensures.served) in
    have_called (task_told g.D.Door.told g.L.Link.told) _ shared c.args.limit
    (map (end_told g.D.Door.told g.L.Link.told) c.args.tasks.now.items) c.sit_all.new.works.items _
    c.serve_hands.new.hands.items c.args.piles.now _ _ c.requires.ready c.in_ok-hands.ensures.taken c.requires.kinds
    served c.leave_all.ensures.works.works (c.are_whole-is_whole.ensures ∙ ap (list_all _) c.deref.ensures.value)
    c.leave_all.ensures.left c.leave_all.ensures.piles.worn c.leave_all.ensures.legal c.requires.empty c.requires.none
    c.leave_all.ensures.piles.passes
