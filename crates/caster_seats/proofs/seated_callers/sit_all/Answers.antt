-- All have sat down.
use Rattle.std.proofs.Common.{arith}
use Rattle.caster_seats.proofs.SittingLemmas.{all_seated}
use Rattle.caster_seats.proofs.seated_callers.sit_all.Goals as goal

pub returns-in-Ok-clause-seated : goal.returns-in-Ok-clause-seated
returns-in-Ok-clause-seated g c =
    let more = c.in-Ok.ensures.seated in
    all_seated c.args.shared.now _ c.args.works.now.items _ _ more.0 c.in_ok-hands.ensures.items more.1 more.2

pub returns-in-Ok-clause-count : goal.returns-in-Ok-clause-count
returns-in-Ok-clause-count g c =
    omega (arith, c.in-Ok.ensures.count, c.in_ok-hands.ensures.len, c.sit_each.new.hands.ok.0)
