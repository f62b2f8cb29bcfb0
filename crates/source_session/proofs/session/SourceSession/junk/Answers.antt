use Rattle.std.proofs.Common.{arith, ap}
use Rattle.rtcm_frame.specs.Pending.{Pending}
use Rattle.source_session.proofs.StandingLemmas.{junk_most}
use Rattle.source_session.proofs.session.SourceSession.junk.Goals as goal

pub returns-clause-at_most : goal.returns-clause-at_most
returns-clause-at_most c = λ body stands.
    omega (arith, c.junk.ensures, ap (λ (p : Pending). p.junk) c.deref.ensures, junk_most _ _ _ body stands)
