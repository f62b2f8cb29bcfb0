-- What a link does in the book of accounts, and what the accounts of a caster come to: by the
-- receipts of its links, and by their caps.
use Rattle.std.specs.Prelude.{◌≡◌, ℕ, ◌+◌, ◌≤◌, ◌⊎◌, ◌==◌, ◌&&◌, if◌then◌else◌, Bool, true, false, List, [], ◌∷◌, ◌++◌, fold, None, Some}
use Rattle.turn_log.specs.History.{History}
use Rattle.turn_log.specs.Heard.{Heard}
use Rattle.caster_accounts.specs.Counts.{opened, ended}
use Rattle.caster_accounts.specs.History.{cap_at}
use Rattle.caster_accounts.specs.Sums.{added, nothing}
use Rattle.caster_accounts.specs.declared.account.Sum.{Sum}
use Rattle.caster_accounts.specs.declared.call.BookCall.{BookCall}
use Rattle.caster_accounts.specs.declared.call.BookCall.TheVariants.{Enter, Leave}
use Rattle.caster_accounts.specs.declared.call.BookAnswer.{BookAnswer}
use Rattle.caster_accounts.specs.declared.call.BookAnswer.TheVariants.{Entered, Full, Left}
use Rattle.cast_config.specs.declared.config.Account.{Account}
use Rattle.cast_config.specs.declared.config.Config.{Config}
use Rattle.session_model.specs.declared.report.Receipt.{Receipt}
use Rattle.session_model.specs.Called.{book_answer}
use Rattle.session_model.specs.Judged.{Opening}
use Rattle.session_model.specs.Setting.{caps}
use Rattle.session_core.specs.declared.held.Held.{Held}
use Rattle.session_core.specs.declared.held.Held.TheVariants as holds
use Rattle.serve_promise.specs.LetIn.{IsLetIn}

-- ---- calls in the book

-- when it is closed it leaves with what its receipt counts, unless that turn was refused
abbrev pub leaves_with : (settled : Bool) → ℕ → Receipt → List (BookCall × BookAnswer)
leaves_with true account receipt = (Leave account receipt.sent receipt.overrun, Left) ∷ []
leaves_with false account receipt = []

-- it called nothing there, or it asked to enter an account that was full
abbrev pub IsTurnedAway : List (BookCall × BookAnswer) → Type 0
IsTurnedAway calls =
    (calls ≡ [])
    ⊎ ((account busy cap : ℕ) × (calls ≡ (Enter account, Full busy cap) ∷ []))

-- all its calls in the book, in order: a rover that was let in entered its account, and left it
abbrev pub AreBookCalls : Held → Receipt → List (BookCall × BookAnswer) → Type 0
AreBookCalls holds.Nothing receipt calls = IsTurnedAway calls
AreBookCalls (holds.Rover account) receipt calls =
    calls ≡ (Enter account, Entered) ∷ leaves_with receipt.settled account receipt
AreBookCalls (holds.Source mount claim) receipt calls = calls ≡ []
AreBookCalls (holds.Relay mount None) receipt calls = IsTurnedAway calls
AreBookCalls (holds.Relay mount (Some claim)) receipt calls = calls ≡ []

-- ---- one link

-- what a link held before it was closed, and its receipt
pub record Bill : Type 0 where
  pub held : Held
  pub receipt : Receipt

-- A link that gave these bytes was let in as what it held. From the start to now its caller made
-- these calls in the book for it, and no other, each answered at its own point.
pub record IsBilled (c : Config) (opening : Opening) (me : ℕ) (given : List ℕ)
    (start now : History BookCall) (bill : Bill) : Type 0 where
  pub let_in : IsLetIn c opening given bill.receipt bill.held
  pub calls : List (BookCall × BookAnswer)
  pub booked : Heard false (book_answer c) start now me calls
  pub are_calls : AreBookCalls bill.held bill.receipt calls

-- ---- sums

-- whether it is a rover that was let in by the account of this number
abbrev pub is_of : ℕ → Held → Bool
is_of account holds.Nothing = false
is_of account (holds.Rover entered) = entered == account
is_of account (holds.Source mount claim) = false
is_of account (holds.Relay mount claim) = false

-- the sum of an account with one link more: it counts the receipts of the rovers that were let in
-- by this account, and left it
abbrev pub tallied_at : ℕ → Sum → Bill → Sum
tallied_at account sum bill =
    if is_of account bill.held && bill.receipt.settled
    then added sum bill.receipt.sent bill.receipt.overrun else sum

-- the sums of the named accounts, numbered from this number on, by the receipts of all links
abbrev pub sums_by : ℕ → List Bill → List Account → List Sum
sums_by n bills [] = []
sums_by n bills (account ∷ more) = fold (tallied_at n) nothing bills ∷ sums_by (n + 1) bills more

-- ---- caps

-- At each point of the book's history the sessions of an account that have begun are those that
-- have ended and so many that are open, which are no more than its cap.
abbrev pub AreCapped : Config → History BookCall → Type 0
AreCapped c book = (before after : History BookCall) (account : ℕ) → book ≡ before ++ after
    → (busy : ℕ)
    × (opened (caps c) account (λ _. true) [] before ≡ ended account (λ _. true) before + busy)
    × (busy ≤ cap_at (caps c) account)
