-- The history of a book: a list of entries, each a caller's number and the call that it made. Who
-- is inside an account follows from it, and so does the answer of each call at its own point.
use Rattle.std.specs.Prelude.{ℕ, ◌==◌, nat_lt, if◌then◌else◌, Bool, true, false, ◌&&◌, List, [], ◌∷◌, length, unwrap_or, slice_get, fold}
use Rattle.caster_accounts.specs.declared.call.BookCall.{BookCall}
use Rattle.caster_accounts.specs.declared.call.BookCall.TheVariants.{Enter, Leave}
use Rattle.caster_accounts.specs.declared.call.BookAnswer.{BookAnswer}
use Rattle.caster_accounts.specs.declared.call.BookAnswer.TheVariants as answers

-- the cap of an account; a number that is no account's has cap 0
abbrev pub cap_at : List ℕ → ℕ → ℕ
cap_at caps account = unwrap_or (slice_get caps account) 0

-- these callers without one session of this caller
abbrev pub without : ℕ → List ℕ → List ℕ
without me [] = []
without me (caller ∷ callers) = if caller == me then callers else caller ∷ without me callers

-- whether this caller is among these
abbrev pub is_among : ℕ → List ℕ → Bool
is_among me [] = false
is_among me (caller ∷ callers) = if caller == me then true else is_among me callers

-- The callers inside an account of this cap after one more entry, a caller once for each of its
-- open sessions: who enters is inside unless the cap was reached, and who leaves is no longer.
abbrev pub goes : ℕ → ℕ → List ℕ → ℕ → BookCall → List ℕ
goes cap account callers me (Enter entered) =
    if entered == account
    then if length callers == cap then callers else me ∷ callers
    else callers
goes cap account callers me (Leave left sent overrun) =
    if left == account then without me callers else callers

-- the callers inside an account of this cap after all entries of a history
abbrev pub callers_in : ℕ → ℕ → List (ℕ × BookCall) → List ℕ
callers_in cap account h =
    fold (λ callers entry. goes cap account callers entry.0 entry.1) [] h

-- how many sessions of an account of this cap are open after a history
abbrev pub inside : ℕ → ℕ → List (ℕ × BookCall) → ℕ
inside cap account h = length (callers_in cap account h)

-- whether a caller has an open session of this account
abbrev pub may_leave : List ℕ → List (ℕ × BookCall) → ℕ → ℕ → Bool
may_leave caps h me account =
    nat_lt account (length caps) && is_among me (callers_in (cap_at caps account) account h)

-- whether a caller may make this call: it may enter what is an account, and leave one that it
-- entered more often than it left it
abbrev pub fits : List ℕ → List (ℕ × BookCall) → ℕ → BookCall → Bool
fits caps h me (Enter account) = nat_lt account (length caps)
fits caps h me (Leave account sent overrun) = may_leave caps h me account

-- one who asks to enter is told that the account is full exactly where as many are inside as its
-- cap
abbrev pub entry_answer : ℕ → ℕ → BookAnswer
entry_answer busy cap = if busy == cap then answers.Full busy cap else answers.Entered

-- the answer of a call that is made after this history
abbrev pub answer : List ℕ → List (ℕ × BookCall) → BookCall → BookAnswer
answer caps h (Enter account) =
    entry_answer (inside (cap_at caps account) account h) (cap_at caps account)
answer caps h (Leave account sent overrun) = answers.Left
