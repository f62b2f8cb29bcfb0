-- What a book keeps of a history.
use Rattle.std.specs.Prelude.{◌≡◌, ℕ, ◌+◌, ◌-◌, ◌*◌, ◌^◌, ◌≤◌, ◌==◌, if◌then◌else◌, List, length, map, Some, slice_get}
use Rattle.caster_accounts.specs.declared.account.Account.{Account}
use Rattle.caster_accounts.specs.declared.book.Book.{Book}
use Rattle.caster_accounts.specs.declared.call.BookCall.{BookCall}
use Rattle.caster_accounts.specs.History.{inside}
use Rattle.caster_accounts.specs.declared.account.Sum.{Sum}
use Rattle.caster_accounts.specs.Sums.{added, total, total_of_all}

-- an account where one more asked to enter
abbrev pub entered : Account → Account
entered account =
    if account.busy == account.cap then account else record account { busy = account.busy + 1 }

-- an account where one session has ended
abbrev pub left : Account → ℕ → ℕ → Account
left account sent overrun =
    record account { busy = account.busy - 1; sum = added account.sum sent overrun }

-- what no call changes: the caps
abbrev pub caps_of : Book → List ℕ
caps_of book = map (λ (account : Account). account.cap) book.accounts.items

-- a sum is within what a history of this length can add up to
pub record IsWithin (h : List (ℕ × BookCall)) (sum : Sum) : Type 0 where
  pub sessions : sum.sessions ≤ length h
  pub sent : sum.sent ≤ length h * 2 ^ 64
  pub overrun : sum.overrun ≤ length h * 2 ^ 64

-- one account is kept: how many are inside, never above the cap, and its sums
pub record KeepsAccount (h : List (ℕ × BookCall)) (place : ℕ) (account : Account) : Type 0 where
  pub busy : account.busy ≡ inside account.cap place h
  pub within : account.busy ≤ account.cap
  pub sum : account.sum ≡ total place h
  pub bounded : IsWithin h account.sum

-- each of these accounts is kept
abbrev pub KeepsEach : List Account → List (ℕ × BookCall) → Type 0
KeepsEach accounts h =
    (place : ℕ) (account : Account) → slice_get accounts place ≡ Some account
    → KeepsAccount h place account

-- the book keeps each of its accounts, and the sums of them all
pub record Keeps (book : Book) (h : List (ℕ × BookCall)) : Type 0 where
  pub each : KeepsEach book.accounts.items h
  pub all : book.all ≡ total_of_all h
  pub bounded : IsWithin h book.all
