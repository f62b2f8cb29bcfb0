use Rattle.std.proofs.Common.{sym, subst}
use Rattle.session_core.specs.declared.session_stage.SessionStage.{SessionStage}
use Rattle.session_core.specs.Closing.{IsJunkAt}
use Rattle.session_core.proofs.closing.junk_at.Goals as goal

pub returns-in-Relay : goal.returns-in-Relay
returns-in-Relay c =
    subst (λ (stage : SessionStage). IsJunkAt stage c.junk-in-Relay.result) (sym c.in-Relay.is) (record {
      unclaimed = c.junk-in-Relay.ensures.unclaimed;
      exact = c.junk-in-Relay.ensures.junk;
      at_most = c.junk-in-Relay.ensures.at_most;
    })
