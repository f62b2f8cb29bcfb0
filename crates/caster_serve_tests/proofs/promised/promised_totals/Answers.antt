-- The law speaks of a caster that served to its end.
use Rattle.std.proofs.Common.{ℕ, List, Result, Ok, Err, IfOk}
use Rattle.cast_io.specs.Told.{StreetTold}
use Rattle.cast_config.specs.declared.config.Config.{Config}
use Rattle.session_model.specs.declared.report.Closed.{Closed}
use Rattle.caster_serve.specs.declared.whole.ServeFault.{ServeFault}
use Rattle.caster_serve.specs.Caster.{HasServed}
use Rattle.serve_promise.specs.Callers.{AllPromised}
use Rattle.caster_serve_tests.proofs.promised.promised_totals.Goals as goal

-- what holds of each caster that served to its end, said of an answer
of_answer : {c : Config} {addr : List ℕ} {limit : ℕ} {old new : StreetTold}
    (answer : Result Closed ServeFault)
    → ((closed : Closed) → HasServed c addr limit old new (Ok closed)
    → AllPromised c limit old new closed)
    → HasServed c addr limit old new answer
    → IfOk answer (λ closed. AllPromised c limit old new closed)
of_answer (Ok closed) law served = law closed served
of_answer (Err fault) law served = tt

pub returns : goal.returns
returns g c = of_answer c.serve.result
    (λ closed. c.casters_are_promised.ensures _ _ _ _ _ closed) c.serve.ensures.served
