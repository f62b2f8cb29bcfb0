use Rattle.session_script.specs.declared.Event.TheVariants.{Turn}
use Rattle.session_make.proofs.RoundLemmas.{row_more}
use Rattle.session_make.proofs.making.push_last_turns.Goals as goal

pub loop-i-preserved : goal.loop-i-preserved
loop-i-preserved c =
    row_more (λ k. Turn k 16) c.args.events.now.items c.loop-i.events.items c.push.new.self.items c.loop-i.i
    c.loop-i.invariant c.in_ok-push.ensures.items
