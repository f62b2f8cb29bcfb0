-- A ring of one place, as the tests of the lock have it: `Some frame` publishes, and `None` reads
-- the newest frame.
use Rattle.std.specs.Prelude.{◌≡◌, ℕ, Bool, true, IsTrue, [], ◌∷◌, ◌++◌, fold, Option, Some, None, is_some, if◌then◌else◌}
use Rattle.std.proofs.Common.{refl, sym, subst, append_assoc}
use Rattle.std.proofs.lemmas.List.{append-nil}
use Rattle.std.proofs.lemmas.Grind.{fold-append}
use Rattle.turn_log.specs.History.{History}

abbrev pub newest : History (Option ℕ) → Option ℕ
newest h = fold (λ frame entry. if is_some entry.1 then entry.1 else frame) None h

-- anybody may publish, and who knows of a frame may read
abbrev pub fits_newest : History (Option ℕ) → Option ℕ → Bool
fits_newest h (Some frame) = true
fits_newest h None = is_some (newest h)

newest_next : (h : History (Option ℕ)) (by : ℕ) (call : Option ℕ)
    → newest (h ++ (by, call) ∷ []) ≡ (if is_some call then call else newest h)
newest_next h by call =
    fold-append (λ frame entry. if is_some entry.1 then entry.1 else frame) None h ((by, call) ∷ [])

-- a frame that was published stays, or a newer one is there
pub newest_stays : (h : History (Option ℕ)) (by : ℕ) (call other : Option ℕ)
    → IsTrue (fits_newest h call) → IsTrue (fits_newest (h ++ (by, other) ∷ []) call)
newest_stays h by (Some frame) other fits = refl
newest_stays h by None (Some frame) fits =
    subst (λ (o : Option ℕ). IsTrue (is_some o)) (sym (newest_next h by (Some frame))) refl
newest_stays h by None None fits =
    subst (λ (o : Option ℕ). IsTrue (is_some o)) (sym (newest_next h by None)) fits

-- the same after any entries
pub newest_on : (h more : History (Option ℕ)) → IsTrue (is_some (newest h))
    → IsTrue (is_some (newest (h ++ more)))
newest_on h [] is =
    subst (λ (l : History (Option ℕ)). IsTrue (is_some (newest l))) (sym (append-nil h)) is
newest_on h (e ∷ more) is =
    subst (λ (l : History (Option ℕ)). IsTrue (is_some (newest l))) (append_assoc h (e ∷ []) more)
    (newest_on (h ++ e ∷ []) more (newest_stays h e.0 None e.1 is))
