use Rattle.caster_top.proofs.DoneLemmas.{told_config, told_report, told_session}
use Rattle.caster_top.proofs.laws.what_was_done_is_what_is_told.Goals as goal

pub returns-clause-report : goal.returns-clause-report
returns-clause-report c = told_report

pub returns-clause-config : goal.returns-clause-config
returns-clause-config c = told_config

pub returns-clause-session : goal.returns-clause-session
returns-clause-session c = told_session
