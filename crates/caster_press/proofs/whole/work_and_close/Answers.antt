-- All wrote, and the press was closed.
use Rattle.caster_press.specs.Callers.{rows_of}
use Rattle.caster_press.proofs.CallerLemmas.{have_written}
use Rattle.caster_press.proofs.whole.work_and_close.Goals as goal

pub close-requires-clause-pile : goal.close-requires-clause-pile
close-requires-clause-pile g c κs within =
    let left = c.in_ok-pile.ensures.left in (rows_of left.callers, left.pile)

pub returns-clause-written : goal.returns-clause-written
returns-clause-written g c =
    have_written g.W.Writer.wrote _ _ _ _ c.close.result.is_torn _ (g.O.Sink.taken c.close.result.sink)
    (g.O.Sink.faults c.close.result.sink) c.in_ok-pile.ensures.left c.close.ensures
