use Rattle.std.proofs.Common.{◌+◌, ◌++◌, [], ◌∷◌, ap, ◌∙◌}
use Rattle.std.specs.Prelude.{codes}
use Rattle.session_script.specs.declared.Event.TheVariants.{Source, Rover}
use Rattle.session_make.proofs.RoundLemmas.{row_more_behind}
use Rattle.session_make.proofs.making.push_opening.Goals as goal

pub loop-i-preserved : goal.loop-i-preserved
loop-i-preserved c =
    row_more_behind (λ k. Rover k (codes "A")) c.args.events.now.items (Source 1 (codes "A"))
    c.loop-i.events.items c.push-in-loop-i.new.self.items c.loop-i.i
    c.loop-i.invariant
    (c.in_ok-push-2.ensures.items
    ∙ ap (λ name. c.loop-i.events.items ++ Rover (2 + c.loop-i.i) name ∷ []) c.in_ok-mountpoint-2.ensures)
