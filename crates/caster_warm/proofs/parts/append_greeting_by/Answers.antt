use Rattle.std.proofs.Common.{◌∙◌, ◌++◌, ℕ, List, sym, ap}
use Rattle.std.proofs.lemmas.List.{append-nil}
use Rattle.std.proofs.lemmas.Result.{on_ok_weaker}
use Rattle.session_model.specs.Run.{after_events}
use Rattle.caster_replay.specs.Going.{rover_among}
use Rattle.caster_warm.specs.Warm.{greeting_for}
use Rattle.caster_warm.proofs.PartLemmas.{greets_own, greets_nobody}
use Rattle.caster_warm.proofs.parts.append_greeting_by.Goals as goal

pub returns-then-brings_bytes : goal.returns-then-brings_bytes
returns-then-brings_bytes c = λ config script later headings before stands are cleared.
    let next = after_events config headings script in
    on_ok_weaker c.append_greeting.result (λ appended.
    appended
    ∙ ap (λ (n : ℕ). c.args.out.now.items ++ greeting_for config before.histories next.histories
    (rover_among config headings n next.connections)) c.number_of.ensures
    ∙ ap (λ (l : List ℕ). c.args.out.now.items ++ l)
    (greets_own config headings before next c.args.event.now (sym c.brings_bytes.ensures ∙ c.if-brings_bytes.true)))
    (c.append_greeting.ensures config script later headings before.histories stands are cleared)

pub returns-else-brings_bytes : goal.returns-else-brings_bytes
returns-else-brings_bytes c = λ config script later headings before stands are cleared.
    sym (append-nil c.args.out.now.items)
    ∙ ap (λ (l : List ℕ). c.args.out.now.items ++ l)
    (greets_nobody config headings before (after_events config headings script) c.args.event.now
    (sym c.brings_bytes.ensures ∙ c.if-brings_bytes.false))
