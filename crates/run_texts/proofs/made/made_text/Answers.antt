-- The summary of the run that was made.
use Rattle.session_make.specs.Rounds.{events_of}
use Rattle.run_texts.proofs.FitLemmas.{fits}
use Rattle.run_texts.proofs.MadeLemmas.{made_result}
use Rattle.run_texts.proofs.made.made_text.Goals as goal

pub summary-requires-clause-mounts : goal.summary-requires-clause-mounts
summary-requires-clause-mounts c =
    (fits c.in_ok-config.config (events_of c.args.seed c.args.frames c.args.rovers) c.in_ok-report.report
    c.in_ok-report.ensures.run).mounts

pub summary-requires-clause-accounts : goal.summary-requires-clause-accounts
summary-requires-clause-accounts c =
    (fits c.in_ok-config.config (events_of c.args.seed c.args.frames c.args.rovers) c.in_ok-report.report
    c.in_ok-report.ensures.run).accounts

pub returns : goal.returns
returns c =
    made_result c.args.seed c.args.frames c.args.rovers _ c.in_ok-report.report c.summary.result
    c.in_ok-config.ensures.value c.in_ok-report.ensures.bare c.summary.ensures
