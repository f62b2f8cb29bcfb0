-- Sessions of an account counted over the entries of a history: those that were opened, and those
-- that ended. Callers are chosen by a test, such as that of one caller, or of all.
use Rattle.std.specs.Prelude.{ℕ, ◌+◌, ◌==◌, Bool, true, false, ◌&&◌, List, [], ◌∷◌, ◌++◌}
use Rattle.caster_accounts.specs.declared.call.BookCall.{BookCall}
use Rattle.caster_accounts.specs.declared.call.BookCall.TheVariants.{Enter, Leave}
use Rattle.caster_accounts.specs.declared.call.BookAnswer.{BookAnswer}
use Rattle.caster_accounts.specs.declared.call.BookAnswer.TheVariants.{Entered, Full, Left}
use Rattle.caster_accounts.specs.History.{answer}

-- 1 where a test holds, else 0
abbrev pub one : (holds : Bool) → ℕ
one true = 1
one false = 0

-- how many of these callers pass the test
abbrev pub count_of : (ℕ → Bool) → List ℕ → ℕ
count_of is_of [] = 0
count_of is_of (caller ∷ callers) = one (is_of caller) + count_of is_of callers

-- whether an answer says that a session is open
abbrev pub is_entered : BookAnswer → Bool
is_entered Entered = true
is_entered (Full busy cap) = false
is_entered Left = false

-- whether a call asks to enter this account
abbrev pub enters : ℕ → BookCall → Bool
enters account (Enter entered) = entered == account
enters account (Leave left sent overrun) = false

-- whether a call leaves this account
abbrev pub leaves : ℕ → BookCall → Bool
leaves account (Enter entered) = false
leaves account (Leave left sent overrun) = left == account

-- how many of the entries that follow `before` are Enter calls of this account by such a caller
-- that were answered Entered
abbrev pub opened : List ℕ → ℕ → (ℕ → Bool) → List (ℕ × BookCall) → List (ℕ × BookCall) → ℕ
opened caps account is_of before [] = 0
opened caps account is_of before (entry ∷ entries) =
    one (is_of entry.0
    && (enters account entry.1 && is_entered (answer caps before (Enter account))))
    + opened caps account is_of (before ++ entry ∷ []) entries

-- how many of these entries are Leave calls of this account by such a caller
abbrev pub ended : ℕ → (ℕ → Bool) → List (ℕ × BookCall) → ℕ
ended account is_of [] = 0
ended account is_of (entry ∷ entries) =
    one (is_of entry.0 && leaves account entry.1) + ended account is_of entries
