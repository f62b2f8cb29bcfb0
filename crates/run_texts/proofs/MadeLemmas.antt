-- What a session that is made of a number comes to.
use Rattle.std.proofs.Common.{◌≡◌, ◌∙◌, ℕ, List, ap, Result, Ok, Err, IfOk}
use Rattle.std.specs.Global.{Vec}
use Rattle.session_make.specs.Rounds.{events_of}
use Rattle.cast_config.specs.declared.config.Config.{Config}
use Rattle.cast_config.specs.Bare.{bare}
use Rattle.session_model.specs.declared.report.Report.{Report}
use Rattle.run_texts.specs.Texts.{bare_report, summary, made_text}

made_is : (seed frames rovers : ℕ) (c : Config) (r : Report) (text : List ℕ) → c ≡ bare 64
    → r ≡ bare_report c (events_of seed frames rovers) → text ≡ summary c r → text ≡ made_text seed frames rovers
unfolding made_text
made_is seed frames rovers c r text same is h =
    h ∙ ap (summary c) is ∙ ap (λ (d : Config). summary d (bare_report d (events_of seed frames rovers))) same

pub made_result : {E : Type 0} (seed frames rovers : ℕ) (c : Config) (r : Report) (result : Result (Vec ℕ) E)
    → c ≡ bare 64 → r ≡ bare_report c (events_of seed frames rovers)
    → IfOk result (λ text. text.items ≡ summary c r) → IfOk result (λ text. text.items ≡ made_text seed frames rovers)
made_result seed frames rovers c r (Ok text) same is h = made_is seed frames rovers c r text.items same is h
made_result seed frames rovers c r (Err fault) same is h = tt
