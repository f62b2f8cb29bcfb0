-- A pass that met a note is one of the same lock.
use Rattle.std.proofs.Common.{◌∙◌}
use Rattle.station_tests.proofs.lock_tests.tell.Goals as goal

pub is_greeted-requires-clause-pass : goal.is_greeted-requires-clause-pass
is_greeted-requires-clause-pass g c κs within =
    let same = c.meet.ensures.same in
    let is = c.publish_beside-first.ensures.second.here in
    (same.2 ∙ is.0, (is.1.0, same.3 ∙ is.1.1, is.1.2))
