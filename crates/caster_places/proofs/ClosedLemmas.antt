-- What a caster came to, told by the whole histories of its locks.
use Rattle.std.proofs.Common.{◌≡◌, ◌∙◌, ◌++◌, suc, List, [], length, map, ap}
use Rattle.std.proofs.lemmas.List.{length-map}
use Rattle.caster_accounts.specs.declared.account.Sum.{Sum}
use Rattle.caster_accounts.specs.Sums.{total}
use Rattle.cast_config.specs.declared.config.Account.{Account}
use Rattle.cast_config.specs.declared.config.Config.{Config}
use Rattle.session_model.specs.declared.report.Closed.{Closed}
use Rattle.session_model.specs.declared.report.MountTotal.{MountTotal}
use Rattle.session_model.specs.Reports.{added, closed_of, mount_total, sums_from}
use Rattle.session_model.specs.Run.{Histories}
use Rattle.session_model.specs.Setting.{caps}

abbrev closed_with : List MountTotal → List Sum → Sum → Closed
closed_with mounts accounts total = record { mounts = mounts; accounts = accounts; total = total }

pub closed_is : (c : Config) (whole : Histories) (mounts : List MountTotal) (accounts : List Sum) (sum : Sum)
    → mounts ≡ map mount_total whole.rings → accounts ≡ sums_from 1 whole c.account
    → sum ≡ added (total 0 whole.book) (sums_from 1 whole c.account)
    → closed_with mounts accounts sum ≡ closed_of c whole
closed_is c whole mounts accounts sum mounts_are accounts_are is =
    ap (λ (m : List MountTotal). closed_with m accounts sum) mounts_are
    ∙ ap (λ (a : List Sum). closed_with (map mount_total whole.rings) a sum) accounts_are
    ∙ ap (closed_with (map mount_total whole.rings) (sums_from 1 whole c.account)) is

-- a list that grew from nothing
pub from_nothing : {X : Type 0} (old new more told : List X) → told ≡ new → new ≡ old ++ more → old ≡ [] → told ≡ more
from_nothing old new more told is grew none = is ∙ grew ∙ ap (λ l. l ++ more) none

pub caps_count : (c : Config) → length (caps c) ≡ suc (length c.account)
caps_count c = ap suc (length-map c.account (λ (account : Account). account.cap))
