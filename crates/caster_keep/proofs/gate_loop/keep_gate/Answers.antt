-- A link more, or none yet; and why it is over.
use Rattle.std.proofs.Common.{◌∙◌, refl, sym, ap, subst, arith}
use Rattle.caster_link.specs.Wear.{lacks_in}
use Rattle.caster_link.proofs.WornLemmas.{stay_both, stay_none}
use Rattle.caster_press.proofs.PlaceLemmas.{same_then}
use Rattle.caster_serve.specs.Works.{IsWithin}
use Rattle.caster_serve.proofs.WorkLemmas.{one_more}
use Rattle.caster_keep.proofs.KeepLemmas.{in_role, keeping_first, keeping_idle, keeping_more, kept_failed, kept_over}
use Rattle.caster_keep.proofs.gate_loop.keep_gate.Goals as goal

pub returns-then-is_over-clause-kept : goal.returns-then-is_over-clause-kept
returns-then-is_over-clause-kept g c =
    let kept = c.loop.invariant in
    kept_over g.G.Door.told g.G.Gate.over g.G.Gate.peer _ _ _ _ _ _ _ _ _ _ _ _ _ _ _ kept.keeping
    c.is_over.ensures.same (sym c.is_over.ensures.over ∙ c.if-is_over.true)

pub returns-in-Failed-clause-kept : goal.returns-in-Failed-clause-kept
returns-in-Failed-clause-kept g c =
    let kept = c.loop.invariant in
    kept_failed g.G.Door.told g.G.Gate.over g.G.Gate.peer g.G.Link.Link.told _ _ _ _ _ _ _ _ _ _ _ _ _ _ _ _
    kept.keeping c.is_over.ensures.same (sym c.is_over.ensures.over ∙ c.if-is_over.false) c.in-Failed.ensures.accepted

pub loop-init : goal.loop-init
loop-init g c = record {
  can = tt;
  finite = tt;
  stay = stay_none _ _;
  role = refl;
  same = record { speaks = refl; home = refl; start = refl };
  few = omega (arith, c.requires.none);
  room = omega (arith, ap (λ sum. sum.sessions) c.requires.nothing);
  within = subst IsWithin (sym c.requires.nothing) (omega arith, omega arith);
  keeping = keeping_first g.G.Door.told g.G.Gate.over g.G.Gate.peer _ _ _ _ _ _ _ _ _ _ c.requires.none;
}

-- a link was kept
pub loop-preserved-in-Link : goal.loop-preserved-in-Link
loop-preserved-in-Link g c =
    let kept = c.loop.invariant in
    let one = c.keep_link.ensures in
    let stay = one.stay in
    let count = ap (λ keeper. keeper.count) one.one_more in
    let few = one_more _ _ _ _ _ _ _ _ _ one.kept.served in record {
      can = tt;
      finite = tt;
      stay = stay_both _ _ _ _ _ _ kept.stay stay;
      role = ap (λ keeper. keeper.role) one.one_more ∙ kept.role;
      same = same_then _ _ _ kept.same one.same;
      few = one.few;
      room = omega (arith, count, few, kept.room);
      within = one.within;
      keeping = keeping_more g.G.Door.told g.G.Gate.over g.G.Gate.peer g.G.Link.Link.told c.in-Link.link _ _ _ _ _ _ _ _ _ _
          _ _ _ _ _ _ _ _ _ _ _ _ (record { same = ap lacks_in stay.known; later = stay.later }) count kept.keeping
          c.is_over.ensures.same (sym c.is_over.ensures.over ∙ c.if-is_over.false) c.in-Link.ensures.accepted
          (in_role _ _ kept.role one.kept);
    }

-- nothing was there
pub loop-preserved : goal.loop-preserved
loop-preserved g c =
    let kept = c.loop.invariant in record {
      can = tt;
      finite = tt;
      stay = kept.stay;
      role = kept.role;
      same = kept.same;
      few = kept.few;
      room = kept.room;
      within = kept.within;
      keeping = keeping_idle g.G.Door.told g.G.Gate.over g.G.Gate.peer g.G.Link.Link.told _ _ _ _ _ _ _ _ _ _ _ _ _ _ _
          _ _ kept.keeping c.is_over.ensures.same (sym c.is_over.ensures.over ∙ c.if-is_over.false)
          c.in-Idle.ensures.accepted c.rest.ensures;
    }
