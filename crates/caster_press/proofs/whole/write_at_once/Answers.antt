-- The press knows what its output told before.
use Rattle.std.proofs.lemmas.Result.{IfOk-weaker}
use Rattle.caster_press.proofs.CallerLemmas.{from_start}
use Rattle.caster_press.proofs.whole.write_at_once.Goals as goal

pub returns-clause-written : goal.returns-clause-written
returns-clause-written g c =
    IfOk-weaker c.work_and_close.result _ _ (λ closed written.
    from_start g.W.Writer.wrote _ _ _ _ _ _ _ c.in_ok-press.ensures.start written)
    c.work_and_close.ensures.written
