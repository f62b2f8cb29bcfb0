-- Each of them did its work.
use Rattle.caster_press.specs.Callers.{MayCall}
use Rattle.caster_press.proofs.CallerLemmas.{all_both, slice_called, slice_wrote}
use Rattle.caster_press.proofs.callers.call_all.Goals as goal
use Rattle.turn_log.proofs.LockLists.{slice_size}

pub call_each-requires-clause-fit : goal.call_each-requires-clause-fit
call_each-requires-clause-fit g c κs within =
    all_both MayCall (λ (caller : _). g.W.Writer.ready caller.work) _ _ c.args.callers.now.items c.as_mut_slice.ensures.value c.requires.fit c.requires.ready

pub returns-clause-size : goal.returns-clause-size
returns-clause-size g c =
    slice_size c.args.callers.now.items _ c.call_each.new.callers _ c.as_mut_slice.ensures.value
    c.args.callers.now.ok.0 c.call_each.ensures.size

pub returns-clause-called : goal.returns-clause-called
returns-clause-called g c =
    slice_called _ c.args.callers.now.items _ c.call_each.new.callers _ c.as_mut_slice.ensures.value
    c.args.callers.now.ok.0 c.call_each.ensures.size c.call_each.ensures.each

pub returns-clause-wrote : goal.returns-clause-wrote
returns-clause-wrote g c =
    slice_wrote _ c.args.callers.now.items _ c.call_each.new.callers _ c.as_mut_slice.ensures.value
    c.args.callers.now.ok.0 c.call_each.ensures.size c.call_each.ensures.wrote
