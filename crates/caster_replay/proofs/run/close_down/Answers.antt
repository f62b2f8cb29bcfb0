use Rattle.std.proofs.Common.{◌≡◌, List, sym, subst}
use Rattle.std.proofs.lemmas.Result.{IfOk-weaker}
use Rattle.session_model.specs.declared.report.Connection.{Connection}
use Rattle.session_model.specs.declared.report.Closed as totals
use Rattle.session_model.specs.Reports.{IsReport, closed_of}
use Rattle.caster_replay.specs.Lives.{AreTold, lives_in}
use Rattle.caster_replay.proofs.ReplayLemmas.{report_is}
use Rattle.caster_replay.proofs.run.close_down.Goals as goal

pub returns-clause-report : goal.returns-clause-report
returns-clause-report g c = λ script short stands.
    let config = c.args.config.now in
    let entries = c.close_all.new.entries.items in
    let desks = c.close_all.new.desks in
    IfOk-weaker c.totals.result (λ (x : totals.Closed). x ≡ closed_of config desks.seen)
    (λ (x : totals.Closed). (told : List Connection) → AreTold (lives_in entries) told
    → IsReport config script (record { connections = told; closed = x }))
    (λ x is told so. subst (λ (y : totals.Closed). IsReport config script
    (record { connections = told; closed = y })) (sym is)
    (report_is config script entries desks told (c.in_ok-close_all.ensures.ok config script short stands) so))
    c.totals.ensures
