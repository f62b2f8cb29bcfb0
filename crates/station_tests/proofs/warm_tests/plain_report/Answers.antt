-- a script of these lines is one for each configuration
use Rattle.std.proofs.Common.{List, sym, subst, arith}
use Rattle.session_script.specs.declared.Event.{Event}
use Rattle.session_script.specs.declared.ScriptKind.TheVariants.{Replay}
use Rattle.session_script.specs.Script.{IsSession}
use Rattle.caster_replay.specs.Scripts.{IsShort}
use Rattle.station_tests.proofs.warm_tests.plain_report.Goals as goal

pub promised_report-requires-clause-script : goal.promised_report-requires-clause-script
promised_report-requires-clause-script c = (
  (
    Replay 0,
    omega arith,
    subst (λ (l : List Event). IsSession (Replay 0) l) (sym c.deref.ensures.value) c.in_ok-events.ensures.session,
  ),
  subst IsShort (sym c.deref.ensures.value) c.in_ok-events.ensures.short,
)
