use Rattle.std.proofs.Common.{ℕ, List, [], sym, subst}
use Rattle.session_model.specs.Judged.{sends_head}
use Rattle.caster_replay.specs.Calls.{Opens}
use Rattle.caster_replay.proofs.WorldReportLemmas.{opens_quiet}
use Rattle.caster_replay.proofs.opening.open_head.Goals as goal

pub returns-clause-opened : goal.returns-clause-opened
returns-clause-opened c = λ config seen. (
  c.in_ok-session.ensures.me,
  subst (λ (bytes : List ℕ). Opens config seen seen c.in_ok-session.session sends_head bytes) (sym c.new.ensures.items)
      (opens_quiet config seen c.in_ok-session.session sends_head [] (c.in_ok-session.ensures.stands config seen)),
)
