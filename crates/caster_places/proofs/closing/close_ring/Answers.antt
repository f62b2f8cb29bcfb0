-- The ring stands for the whole history, and tells of it.
use Rattle.caster_places.proofs.PileLemmas.{has_all}
use Rattle.caster_places.proofs.TotalLemmas.{total_told}
use Rattle.caster_places.proofs.closing.close_ring.Goals as goal

pub returns : goal.returns
returns c =
    let closed = c.close-ring.ensures.whole in (
      closed.0,
      total_told c.published.result c.claims.result closed.0 (c.published.ensures closed.0 closed.1)
          (c.claims.ensures closed.0 closed.1),
      has_all c.args.pile.items c.args.lock closed.0 c.requires.all closed.2 closed.3 closed.4,
    )
