-- The passes of all callers are there, and tell of one history.
use Rattle.caster_press.specs.Lines.{text_in}
use Rattle.caster_press.proofs.PileLemmas.{pile_here, whole_of}
use Rattle.caster_press.proofs.WrittenLemmas.{written_from}
use Rattle.caster_press.proofs.leaving.close.Goals as goal

pub close-requires-clause-here : goal.close-requires-clause-here
close-requires-clause-here g c = λ i pass at. pile_here c.requires.pile.0 _ _ i pass c.requires.pile.1 at

pub returns : goal.returns
returns g c = λ rows pile.
    let w = c.close.ensures.whole in (
      w.0,
      whole_of rows _ _ _ w.0 pile c.requires.all w.2 w.3,
      written_from c.into_parts-sink.result.1 _ _ (g.O.Sink.taken c.into_parts-sink.result.0)
          (g.O.Sink.faults c.into_parts-sink.result.0) (text_in w.0) c.close.ensures.shape
          (c.into_parts-sink.ensures w.0 w.1),
    )
