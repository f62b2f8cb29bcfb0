-- The report of a run fits its configuration.
use Rattle.run_texts.proofs.FitLemmas.{fits}
use Rattle.run_texts.proofs.report.run_text.Goals as goal

pub report_text-requires-clause-mounts : goal.report_text-requires-clause-mounts
report_text-requires-clause-mounts c =
    (fits c.args.config.now c.args.events.now c.in_ok-report.report c.in_ok-report.ensures).mounts

pub report_text-requires-clause-accounts : goal.report_text-requires-clause-accounts
report_text-requires-clause-accounts c =
    (fits c.args.config.now c.args.events.now c.in_ok-report.report c.in_ok-report.ensures).accounts
