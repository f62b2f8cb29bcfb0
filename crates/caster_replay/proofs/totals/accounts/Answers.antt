use Rattle.std.proofs.Common.{◌∙◌, ◌<◌, ◌++◌, List, [], ◌∷◌, length, take, sym, ap, arith}
use Rattle.std.proofs.lemmas.List.{take_all}
use Rattle.caster_accounts.specs.declared.account.Sum.{Sum}
use Rattle.session_model.specs.Reports.{sums_from}
use Rattle.session_model.proofs.ReportSums.{sums_more}
use Rattle.caster_replay.proofs.totals.accounts.Goals as goal

pub loop-number-preserved : goal.loop-number-preserved
loop-number-preserved c = λ seen keeps.
    let accounts = c.args.config.now.account in
    let within : c.loop-number.number < length accounts =
    omega (arith, c.loop-number-test.true, ap length c.as_slice-number-end.ensures) in
    c.in_ok-push.ensures.items
    ∙ ap (λ (sums : List Sum). sums ++ c.total.result ∷ []) (c.loop-number.invariant seen keeps)
    ∙ ap (λ (sum : Sum). sums_from 1 seen (take c.loop-number.number accounts) ++ sum ∷ [])
    (c.total.ensures seen.book keeps)
    ∙ sym (sums_more seen c.loop-number.number accounts within)

pub returns : goal.returns
returns c = λ seen keeps.
    c.loop-number.invariant seen keeps
    ∙ ap (sums_from 1 seen)
    (take_all c.loop-number.number c.args.config.now.account
    (omega (arith, c.loop-number-test.false, ap length c.as_slice-number-end.ensures)))
