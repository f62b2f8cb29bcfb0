-- Each of them served.
use Rattle.caster_serve.specs.Serving.{MayServe}
use Rattle.caster_serve.proofs.CallersLemmas.{slice_may, slice_served}
use Rattle.caster_serve.proofs.callers.serve_hands.Goals as goal
use Rattle.turn_log.proofs.LockLists.{slice_size}

pub serve_all-requires-clause-fit : goal.serve_all-requires-clause-fit
serve_all-requires-clause-fit g c κs within =
    slice_may (MayServe c.args.config.now c.args.table.now c.args.limit) _ _ c.args.hands.now.items
    c.as_mut_slice.ensures.value c.requires.fit

pub returns-clause-size : goal.returns-clause-size
returns-clause-size g c =
    slice_size c.args.hands.now.items _ c.serve_all.new.hands _ c.as_mut_slice.ensures.value c.args.hands.now.ok.0
    c.serve_all.ensures.size

pub returns-clause-served : goal.returns-clause-served
returns-clause-served g c =
    slice_served c.args.config.now c.args.limit _ c.args.hands.now.items _ c.serve_all.new.hands _
    c.as_mut_slice.ensures.value
    c.args.hands.now.ok.0 c.serve_all.ensures.size c.serve_all.ensures.each
