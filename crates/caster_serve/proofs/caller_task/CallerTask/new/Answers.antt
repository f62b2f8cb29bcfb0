-- A sum of nothing, by its parts.
use Rattle.std.proofs.Common.{ap}
use Rattle.caster_serve.proofs.StreetLemmas.{is_nothing}
use Rattle.caster_serve.proofs.caller_task.CallerTask.new.Goals as goal

pub returns : goal.returns
returns g c =
    let d = c.default.ensures in
    ap (λ sum. record { end = c.args.end; tally = sum; served = 0 }) (is_nothing c.default.result d.0 d.1.0 d.1.1)
