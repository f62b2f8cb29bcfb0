-- What the stage comes to with the bytes is what the relay comes to.
use Rattle.std.proofs.Common.{subst, sym}
use Rattle.upstream_relay.specs.declared.body.RelayStage.{RelayStage}
use Rattle.upstream_relay.specs.Standing.{StandsAt}
use Rattle.upstream_relay.proofs.session.RelaySession.feed.Goals as goal

pub returns-clause-adds : goal.returns-clause-adds
returns-clause-adds g c = λ mount before steps x.
    c.go_on-begun.ensures.adds mount before steps
    (subst (λ (s : RelayStage). StandsAt mount c.args.self.now.me s before steps) (sym c.replace-stage.ensures.value) x)
