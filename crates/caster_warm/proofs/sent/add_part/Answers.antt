use Rattle.std.proofs.Common.{◌∙◌, ◌++◌, ℕ, List, Some, None, refl, ap}
use Rattle.std.proofs.lemmas.Result.{on_ok_weaker}
use Rattle.caster_warm.proofs.SentLemmas.{added}
use Rattle.caster_warm.proofs.sent.add_part.Goals as goal

-- behind what was found
pub returns-in_ok-extend_from_slice-in-Some : goal.returns-in_ok-extend_from_slice-in-Some
returns-in_ok-extend_from_slice-in-Some c = λ n.
    on_ok_weaker c.put.result
    (λ put. put ∙ added n c.args.part c.args.sent.now c.remove.new.self (Some c.in-Some.bytes) _
    c.in-Some.ensures.value c.in-Some.ensures.updates.2 (c.in_ok-extend_from_slice-in-Some.ensures.items
    ∙ ap (λ (l : List ℕ). c.in-Some.bytes.items ++ l) c.deref.ensures.value))
    (c.put.ensures n)

-- where nothing was found
pub returns-in-None : goal.returns-in-None
returns-in-None c = λ n.
    on_ok_weaker c.put-in-None.result
    (λ put. put ∙ added n c.args.part c.args.sent.now c.remove.new.self None _
    c.in-None.ensures.value c.in-None.ensures.updates.2 refl)
    (c.put-in-None.ensures n)
