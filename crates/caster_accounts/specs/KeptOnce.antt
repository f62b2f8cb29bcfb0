-- That a book keeps what a history says is one fact, and not a choice.
use Rattle.std.specs.Prelude.{ℕ, List, refl}
use Rattle.std.specs.Coded.{Coded, Coded-set, code_by, coded×, coded_ℕ, le_prop}
use Rattle.caster_accounts.specs.declared.account.Sum.{Sum}
use Rattle.caster_accounts.specs.declared.book.Book.{Book}
use Rattle.caster_accounts.specs.declared.call.BookCall.{BookCall}
use Rattle.caster_accounts.specs.Kept.{Keeps}

-- a sum as three numbers
abbrev sum_code : Coded Sum
sum_code =
    code_by (ℕ × (ℕ × ℕ)) (coded× coded_ℕ (coded× coded_ℕ coded_ℕ))
    (λ sum. (sum.sessions, (sum.sent, sum.overrun)))
    (λ triple. record { sessions = triple.0; sent = triple.1.0; overrun = triple.1.1 })
    (λ _. refl)

pub kept_once : (book : Book) (h : List (ℕ × BookCall)) → IsProp (Keeps book h)
kept_once book h = hlevel (Coded-set coded_ℕ, Coded-set sum_code, le_prop)
