-- What the sessions of callers add up to, by the calls that end them.
use Rattle.std.specs.Prelude.{◌≡◌, ℕ, ◌++◌, List, fold}
use Rattle.turn_log.specs.History.{History, own}
use Rattle.caster_accounts.specs.declared.account.Sum.{Sum}
use Rattle.caster_accounts.specs.declared.call.BookCall.{BookCall}
use Rattle.caster_accounts.specs.Sums.{after_any}

-- the sums after these calls, of whatever account
abbrev pub left_in : Sum → List BookCall → Sum
left_in sum calls = fold after_any sum calls

-- the book went on, and the sum grew by the sessions that this caller ended since
pub record Leaves (me : ℕ) (start now : History BookCall) (old new : Sum) : Type 0 where
  pub more : History BookCall
  pub on : now ≡ start ++ more
  pub sums : new ≡ left_in old (own me more)
