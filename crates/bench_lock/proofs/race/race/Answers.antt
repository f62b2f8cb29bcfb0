use Rattle.bench_lock.proofs.Places.{at_index}
use Rattle.bench_lock.proofs.race.race.Goals as goal

pub runners-requires-clause-here : goal.runners-requires-clause-here
runners-requires-clause-here g c = λ i pass at.
    let is = c.in_ok-turn.ensures.each i pass at in (is.0, is.3)

pub map_vec-requires-after_bounds : goal.map_vec-requires-after_bounds
map_vec-requires-after_bounds g c κs within = λ i runner below is.
    (c.in_ok-list.ensures.each i runner (at_index c.in_ok-list.list.items i runner below is), search)
