use Rattle.std.proofs.Common.{◌∙◌, ◌++◌, ℕ, List, sym, ap, subst}
use Rattle.session_model.specs.Judged.{relays}
use Rattle.session_model.specs.Replies.{opening_text}
use Rattle.caster_replay.specs.Calls.{Opens}
use Rattle.caster_replay.proofs.WorldReportLemmas.{opens_quiet}
use Rattle.caster_replay.proofs.opening.open_relay.Goals as goal

pub returns-clause-opened : goal.returns-clause-opened
returns-clause-opened c = λ seen.
    let text : List ℕ = opening_text c.args.config.now (relays c.args.relay) in (
      c.in_ok-session.ensures.me,
      subst (λ (bytes : List ℕ). Opens c.args.config.now seen seen c.in_ok-session.session (relays c.args.relay) bytes)
          (sym (c.in_ok-session.ensures.ok ∙ ap (λ (before : List ℕ). before ++ text) c.new-bytes.ensures.items))
          (opens_quiet c.args.config.now seen c.in_ok-session.session (relays c.args.relay) text
          (c.in_ok-session.ensures.stands seen)),
    )
