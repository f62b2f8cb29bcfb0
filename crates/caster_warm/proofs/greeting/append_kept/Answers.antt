use Rattle.std.proofs.Common.{◌∙◌, ◌++◌, sym, ap}
use Rattle.std.proofs.lemmas.List.{append-nil}
use Rattle.std.proofs.lemmas.Result.{on_ok_weaker}
use Rattle.last_frames.specs.Greeted.{Greeting}
use Rattle.caster_warm.specs.Warm.{greeting_text}
use Rattle.caster_warm.proofs.greeting.append_kept.Goals as goal

pub returns-in-Some : goal.returns-in-Some
returns-in-Some c = λ old cleared.
    on_ok_weaker c.push_frames.result (λ appended.
    appended
    ∙ ap (λ (g : Greeting). c.args.out.now.items ++ greeting_text c.args.rover.version g) (sym (c.in-Some.ensures.some old cleared)))
    c.push_frames.ensures.ok

pub returns-in-None : goal.returns-in-None
returns-in-None c = λ old cleared.
    sym (append-nil c.args.out.now.items)
    ∙ ap (λ (g : Greeting). c.args.out.now.items ++ greeting_text c.args.rover.version g) (sym (c.in-None.ensures.none old cleared))
