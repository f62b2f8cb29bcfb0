-- A seat never lacks memory.
use Rattle.caster_link.proofs.WornLemmas.{none_lack, worn_alone}
use Rattle.caster_serve.proofs.connection.serve_link.Goals as goal

pub returns-clause-unsettled : goal.returns-clause-unsettled
returns-clause-unsettled g c = λ is. worn_alone _ _ (none_lack c.serve_places.new.places.rings.items) (c.serve_places.ensures.unsettled is)
