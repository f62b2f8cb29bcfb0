-- All sat down, did their work, and left.
use Rattle.std.proofs.Common.{refl, subst}
use Rattle.std.specs.List.{All}
use Rattle.caster_press.proofs.CallerLemmas.{all_mapped, all_seated, all_works, have_left, may_call, still_callers}
use Rattle.caster_press.proofs.whole.work_at.Goals as goal

pub call_all-requires-clause-fit : goal.call_all-requires-clause-fit
call_all-requires-clause-fit g c κs within =
    let sat = c.sit_all.ensures.callers in
    may_call 0 _ _ (all_seated _ _ _ sat.0 _ c.requires.empty.0 sat.1 sat.2)

pub call_all-requires-clause-ready : goal.call_all-requires-clause-ready
call_all-requires-clause-ready g c κs within =
    let sat = c.sit_all.ensures.callers in
    all_mapped g.W.Writer.ready (λ (caller : _). caller.work) c.sit_all.new.callers.items c.sit_all.new.callers.items refl
    (subst (All g.W.Writer.ready) (all_works _ _ _ _ sat.0 c.requires.empty.0 sat.1 sat.3) c.requires.ready)

pub returns-clause-left : goal.returns-clause-left
returns-clause-left g c =
    let sat = c.sit_all.ensures.callers in
    let seated = all_seated _ _ c.sit_all.new.callers.items sat.0 _ c.requires.empty.0 sat.1 sat.2 in
    let done = still_callers 0 _ _ _ seated c.call_all.ensures.called in
    have_left _ (λ (caller : _). caller.work) g.W.Writer.wrote c.sit_all.new.callers.items
    c.call_all.new.callers.items _ c.args.works.now.items _ _ c.leave_all.new.pile.items done
    (all_works _ _ _ _ sat.0 c.requires.empty.0 sat.1 sat.3) c.sit_all.ensures.taken c.leave_all.ensures.works
    (c.leave_all.ensures.left _ c.requires.empty.1 done) c.call_all.ensures.wrote
    c.call_all.ensures.size
