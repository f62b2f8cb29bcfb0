-- What is made is a bare session, whose report is a function of its events.
use Rattle.std.proofs.Common.{List, ◌∙◌, ap, subst}
use Rattle.session_script.specs.declared.Event.{Event}
use Rattle.session_model.specs.Reports.{IsReport}
use Rattle.run_texts.specs.Texts.{bare_report}
use Rattle.run_texts.proofs.BareLemmas.{bare_is_report}
use Rattle.run_texts.proofs.made.made_report.Goals as goal

pub returns-clause-run : goal.returns-clause-run
returns-clause-run c =
    subst (λ (list : List Event). IsReport c.args.config.now list c.in_ok-report.report)
    (c.deref.ensures.value ∙ c.in_ok-events.ensures.events) c.in_ok-report.ensures

pub returns-clause-bare : goal.returns-clause-bare
returns-clause-bare c =
    bare_is_report c.args.config.now c.in_ok-events.events.items c.in_ok-report.report
    c.in_ok-events.ensures.session (rw c.deref.ensures.value at c.in_ok-report.ensures)
    ∙ ap (bare_report c.args.config.now) c.in_ok-events.ensures.events
