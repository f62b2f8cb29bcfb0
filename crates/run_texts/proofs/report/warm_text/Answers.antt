-- The report of a run with greetings fits its configuration.
use Rattle.run_texts.proofs.FitLemmas.{fits_greeted}
use Rattle.run_texts.proofs.report.warm_text.Goals as goal

pub report_text-requires-clause-mounts : goal.report_text-requires-clause-mounts
report_text-requires-clause-mounts c =
    (fits_greeted c.args.config.now c.args.events.now c.in_ok-greeted.greeted c.in_ok-greeted.ensures).mounts

pub report_text-requires-clause-accounts : goal.report_text-requires-clause-accounts
report_text-requires-clause-accounts c =
    (fits_greeted c.args.config.now c.args.events.now c.in_ok-greeted.greeted c.in_ok-greeted.ensures).accounts
