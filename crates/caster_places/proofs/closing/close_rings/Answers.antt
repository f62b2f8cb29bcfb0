-- One lock more.
use Rattle.std.proofs.Common.{◌++◌, [], ◌∷◌, subst, arith, append-nil}
use Rattle.caster_places.proofs.ListLemmas.{matched-length}
use Rattle.caster_places.proofs.PileLemmas.{AllClosed, closed_behind, closed_none, closing_next}
use Rattle.caster_places.proofs.TotalLemmas.{told_more}
use Rattle.caster_places.proofs.closing.close_rings.Goals as goal

pub close_ring-requires : goal.close_ring-requires
close_ring-requires c = record {
  all = (closing_next _ _ _ _ _ _ c.in-Some-next.ensures.items c.in-Some.ensures.items
      c.loop-lock.invariant.all).0;
}

pub loop-lock-preserved : goal.loop-lock-preserved
loop-lock-preserved c =
    let at = c.loop-lock.invariant in
    let here = c.close_ring.ensures in record {
      all = (closing_next _ _ _ _ _ _ c.in-Some-next.ensures.items c.in-Some.ensures.items at.all).1;
      closed = (
        at.closed.0 ++ here.0 ∷ [],
        told_more c.args.totals.now.items _ _ at.closed.0 here.0 c.close_ring.result at.closed.1
            c.push_reserved.ensures.items here.1,
        closed_behind _ _ _ _ at.closed.0 here.0 c.in-Some-next.ensures.items here.2 at.closed.2,
      );
      room = omega (arith, at.room, c.in-Some.ensures.len, c.push_reserved.ensures.len, c.push_reserved.ensures.capacity);
      wide = omega (arith, at.wide, c.push_reserved.ensures.capacity);
      many = omega (arith, at.many, c.in-Some.ensures.len, c.push_reserved.ensures.len);
    }

pub destroy_empty-requires-2 : goal.destroy_empty-requires-2
destroy_empty-requires-2 c =
    let all = matched-length _ _ _ c.loop-lock.invariant.all in
    omega (arith, all, c.in_default.ensures.cases.0, c.loop-lock.locks.rest.ok.0, c.loop-lock.piles.rest.ok.0)

pub returns-clause-closed : goal.returns-clause-closed
returns-clause-closed c =
    let at = c.loop-lock.invariant in (
      at.closed.0,
      at.closed.1,
      subst (AllClosed c.args.piles.items) (append-nil at.closed.0)
          (at.closed.2 [] (closed_none _ _ (omega (arith, c.in_default.ensures.cases.0, c.loop-lock.locks.rest.ok.0))
          at.all)),
    )
