-- All lines of the caller are those that its work put.
use Rattle.std.proofs.Common.{subst}
use Rattle.caster_press.proofs.PlaceLemmas.{put_all_own}
use Rattle.caster_press.proofs.callers.CallerCalls.call.Goals as goal

pub returns-clause-wrote : goal.returns-clause-wrote
returns-clause-wrote g c =
    let wrote = c.write.ensures.wrote in
    subst (λ lines. g.W.Writer.wrote c.args.self.now.work c.write.new.self lines)
    (put_all_own c.args.self.now.number wrote.0 _ _ c.requires.may.1 wrote.1) wrote.2
