use Rattle.session_core_tests.proofs.ShapeLemmas.{alone_there}
use Rattle.session_core_tests.proofs.caster.served_at.Goals as goal

pub serve_two-requires-clause-alone : goal.serve_two-requires-clause-alone
serve_two-requires-clause-alone c = alone_there c.start_as.new.places.rings.items c.start_as.new.places.book
