-- the sums so far
use Rattle.std.proofs.Common.{◌≡◌, take}
use Rattle.caster_accounts.specs.Kept.{Keeps}
use Rattle.session_model.specs.Reports.{sums_from}
use Rattle.session_model.specs.Run.{Histories}
use Rattle.caster_replay.proofs.totals.accounts.Given as goal

abbrev pub invariant-loop-number : goal.invariant-loop-number
invariant-loop-number l =
    (seen : Histories) → Keeps l.book seen.book → l.sums.items ≡ sums_from 1 seen (take l.number l.config.account)
