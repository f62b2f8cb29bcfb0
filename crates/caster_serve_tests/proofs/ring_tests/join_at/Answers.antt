-- The ring of a mountpoint has a filter.
use Rattle.caster_serve_tests.proofs.SeatLemmas.{some_filter}
use Rattle.caster_serve_tests.proofs.ring_tests.join_at.Goals as goal

pub join-requires-clause-filter : goal.join-requires-clause-filter
join-requires-clause-filter g c =
    some_filter g.T.Turns.shape c.args.shared.now.config.now c.args.places.rings.items c.pop.new.self.items
    c.in-Some.place
    c.requires.ready.kept c.requires.fit.shapes_fit c.in-Some.ensures.items
