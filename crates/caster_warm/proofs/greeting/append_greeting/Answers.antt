use Rattle.std.proofs.Common.{◌∙◌, ◌++◌, ℕ, List, sym, ap}
use Rattle.std.proofs.lemmas.List.{append-nil}
use Rattle.std.proofs.lemmas.Result.{on_ok_weaker}
use Rattle.caster_warm.proofs.GreetingLemmas.{greets_rover, greets_none}
use Rattle.caster_warm.proofs.greeting.append_greeting.Goals as goal

pub rover-requires : goal.rover-requires
rover-requires c = record { run = c.requires.run }

pub returns-in-Some : goal.returns-in-Some
returns-in-Some c = λ config script later headings old stands are cleared.
    on_ok_weaker c.append_kept.result (λ appended.
    appended
    ∙ ap (λ (l : List ℕ). c.args.out.now.items ++ l)
    (greets_rover config script later headings c.args.run.now old stands are c.in-Some.rover _
    (sym c.in-Some.is ∙ c.rover.ensures config script stands later headings are)))
    (c.append_kept.ensures old cleared)

pub returns-in-None : goal.returns-in-None
returns-in-None c = λ config script later headings old stands are cleared.
    sym (append-nil c.args.out.now.items)
    ∙ ap (λ (l : List ℕ). c.args.out.now.items ++ l)
    (greets_none config script later headings c.args.run.now old stands are _
    (sym c.in-None.is ∙ c.rover.ensures config script stands later headings are))
