use Rattle.std.proofs.Common.{ℕ, ◌+◌, [], ◌∷◌, length, ap}
use Rattle.std.proofs.lemmas.Result.{err_from_is_err_and}
use Rattle.turn_log.specs.History.{History}
use Rattle.turn_log.proofs.HeardLaws.{heard_turn, heard_both, heard_same, first_refused}
use Rattle.ring_tests.proofs.desk_tests.take_two.Goals as goal

-- what a call for a ticket is answered
abbrev number : ℕ → History ℕ → ℕ → ℕ → ℕ
number first h me known = first + length h

-- both calls were heard, the second at the place as the first left it
pub returns-clause-ok : goal.returns-clause-ok
returns-clause-ok g c =
    let same = c.in_ok-first.ensures.same in
    heard_both _ _ _ _ _ _ _ _ (heard_turn c.in_ok-first.ensures.ok)
    (heard_same same.3 (ap number same.0) (heard_turn c.in_ok-second.ensures.ok))

-- the first call alone was heard
pub returns-in_err-second-clause-err : goal.returns-in_err-second-clause-err
returns-in_err-second-clause-err g c =
    let p = err_from_is_err_and c.from_residual-in_err-second.result c.from_residual-in_err-second.ensures.1 in
    rw p.1 (first_refused (1 ∷ []) (heard_turn c.in_ok-first.ensures.ok) c.in_err-second.ensures.err.0)
