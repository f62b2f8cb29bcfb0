-- The sums of all accounts are those of each account, added up.
use Rattle.std.proofs.Common.{◌≡◌, ◌∙◌, ℕ, suc, List, [], length, map, ap, subst}
use Rattle.turn_log.specs.History.{IsLegal}
use Rattle.caster_accounts.specs.History.{fits}
use Rattle.caster_accounts.specs.Sums.{total, total_of_all}
use Rattle.caster_accounts.specs.declared.account.Sum.{Sum}
use Rattle.cast_config.specs.declared.config.Account.{Account}
use Rattle.cast_config.specs.declared.config.Config.{Config}
use Rattle.session_model.specs.declared.report.MountTotal.{MountTotal}
use Rattle.session_model.specs.declared.report.Closed as totals
use Rattle.session_model.specs.Reports.{added, closed_of, mount_total, sums_from}
use Rattle.session_model.specs.Run.{Histories}
use Rattle.session_model.proofs.ReportSums.{total_named}
use Rattle.caster_accounts.proofs.CallSums.{AreNamed, named_after}

abbrev pub closed_with : List MountTotal → List Sum → Sum → totals.Closed
closed_with mounts accounts all = record { mounts = mounts; accounts = accounts; total = all }

-- the sums of all accounts, where there are so many named ones beside the first
pub total_is : (h : Histories) (caps : List ℕ) (accounts : List Account) → length caps ≡ suc (length accounts)
    → IsLegal (fits caps) h.book → total_of_all h.book ≡ added (total 0 h.book) (sums_from 1 h accounts)
total_is h caps accounts count legal =
    let named : AreNamed (suc (length accounts)) h.book =
    subst (λ (n : ℕ). AreNamed n h.book) count (named_after caps [] h.book legal) in
    total_named h accounts named

-- what a caster came to, part by part
pub closed_by : (c : Config) (h : Histories) (mounts : List MountTotal) (accounts : List Sum) (all : Sum)
    → mounts ≡ map mount_total h.rings → accounts ≡ sums_from 1 h c.account → all ≡ (closed_of c h).total
    → closed_with mounts accounts all ≡ closed_of c h
closed_by c h mounts accounts all mounts_are accounts_are all_is =
    ap (λ (m : List MountTotal). closed_with m accounts all) mounts_are
    ∙ ap (λ (a : List Sum). closed_with (map mount_total h.rings) a all) accounts_are
    ∙ ap (closed_with (map mount_total h.rings) (sums_from 1 h c.account)) all_is
