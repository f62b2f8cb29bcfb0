use Rattle.std.proofs.Common.{ap, ◌∙◌, sym}
use Rattle.mount_ring.specs.declared.RingAnswer.TheVariants.{Given}
use Rattle.source_session.proofs.CallLemmas.{heard_as}
use Rattle.source_session.proofs.session.SourceSession.claim.Goals as goal

pub returns-in-Given-clause-given : goal.returns-in-Given-clause-given
returns-in-Given-clause-given g c =
    heard_as _ c.in_ok-claim.ensures.ok (c.in-Given.is ∙ ap Given (sym c.begin.ensures.claim))

pub returns-in-Taken-clause-unclaimed : goal.returns-in-Taken-clause-unclaimed
returns-in-Taken-clause-unclaimed g c = heard_as _ c.in_ok-claim.ensures.ok c.in-Taken.is
