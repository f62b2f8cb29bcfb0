-- The link was served, and its receipt counted.
use Rattle.caster_serve.proofs.WorkLemmas.{link_counted}
use Rattle.caster_serve.proofs.tally.serve_counted.Goals as goal

pub returns-clause-counted : goal.returns-clause-counted
returns-clause-counted g c =
    link_counted _ _ _ _ _ _ _ _ _ _ _ c.requires.fresh c.serve_places-receipt.ensures.served
    (record { ending = c.serve_places-receipt.ensures.worn; unsettled = c.serve_places-receipt.ensures.unsettled })
    c.count_receipt.ensures.counted
