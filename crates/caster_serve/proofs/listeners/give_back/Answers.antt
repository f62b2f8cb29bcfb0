-- One more is given back.
use Rattle.std.proofs.Common.{[], ◌∷◌, ◌++◌, map, ap, sym, subst}
use Rattle.caster_serve.specs.Endpoints.{HasTakenBack, end_of, end_told}
use Rattle.caster_serve.proofs.StreetLemmas.{back_door, back_link, back_none, told_next}
use Rattle.caster_serve.proofs.listeners.give_back.Goals as goal

pub loop-task-init : goal.loop-task-init
loop-task-init g c = record {
  back = (
    [],
    ap (map (end_told g.N.Door.Door.told g.N.Link.Link.told)) (sym c.into_iter-tasks.ensures.rest),
    back_none _,
  );
}

pub loop-task-preserved-in-Door : goal.loop-task-preserved-in-Door
loop-task-preserved-in-Door g c =
    let door = g.N.Door.Door.told in
    let link = g.N.Link.Link.told in
    let at = c.loop-task.invariant.back in record {
      back = (
        at.0 ++ end_told door link c.in-Some.task ∷ [],
        told_next door link _ at.0 _ _ c.in-Some.task at.1 c.in-Some.ensures.items,
        subst (λ e. HasTakenBack (at.0 ++ end_of door link e ∷ []) (g.N.Street.told c.args.street.now)
            (g.N.Street.told c.shut.new.self)) (sym c.in-Door.is)
            (back_door _ _ _ at.0 _ at.2 c.shut.ensures.shut),
      );
    }

pub loop-task-preserved : goal.loop-task-preserved
loop-task-preserved g c =
    let door = g.N.Door.Door.told in
    let link = g.N.Link.Link.told in
    let at = c.loop-task.invariant.back in record {
      back = (
        at.0 ++ end_told door link c.in-Some.task ∷ [],
        told_next door link _ at.0 _ _ c.in-Some.task at.1 c.in-Some.ensures.items,
        subst (λ e. HasTakenBack (at.0 ++ end_of door link e ∷ []) (g.N.Street.told c.args.street.now)
            (g.N.Street.told c.hang_up.new.self)) (sym c.in-Link.is)
            (back_link _ _ _ at.0 _ _ at.2 c.hang_up.ensures.left),
      );
    }
