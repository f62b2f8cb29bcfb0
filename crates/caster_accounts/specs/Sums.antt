-- What the sessions of an account, and of all, add up to: the sums over their Leave entries.
use Rattle.std.specs.Prelude.{ℕ, ◌+◌, ◌==◌, if◌then◌else◌, List, fold}
use Rattle.caster_accounts.specs.declared.account.Sum.{Sum}
use Rattle.caster_accounts.specs.declared.call.BookCall.{BookCall}
use Rattle.caster_accounts.specs.declared.call.BookCall.TheVariants.{Enter, Leave}

-- before the first session has ended
abbrev pub nothing : Sum
nothing = record { sessions = 0; sent = 0; overrun = 0 }

-- after one more session, with what it was sent and lost
abbrev pub added : Sum → ℕ → ℕ → Sum
added sum sent overrun = record {
  sessions = sum.sessions + 1;
  sent = sum.sent + sent;
  overrun = sum.overrun + overrun;
}

-- after one more call: a Leave of this account adds to its sums, and nothing else does
abbrev pub after_call : ℕ → Sum → BookCall → Sum
after_call account sum (Enter entered) = sum
after_call account sum (Leave left sent overrun) =
    if left == account then added sum sent overrun else sum

-- the sums of an account after all entries of a history
abbrev pub total : ℕ → List (ℕ × BookCall) → Sum
total account h = fold (λ sum entry. after_call account sum entry.1) nothing h

-- after one more call of any account
abbrev pub after_any : Sum → BookCall → Sum
after_any sum (Enter entered) = sum
after_any sum (Leave left sent overrun) = added sum sent overrun

-- the sums of all accounts after all entries of a history
abbrev pub total_of_all : List (ℕ × BookCall) → Sum
total_of_all h = fold (λ sum entry. after_any sum entry.1) nothing h
