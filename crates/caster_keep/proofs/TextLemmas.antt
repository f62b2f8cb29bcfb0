-- The text of all lines and of the totals behind them.
use Rattle.std.proofs.Common.{◌≡◌, ◌∙◌, ℕ, Bool, true, false, List, ◌++◌, sym, subst}
use Rattle.std.specs.Prelude.{Option, Result, Ok, Err, OnOk, OnErr, is_err, is_ok}
use Rattle.std.specs.Io.KnownBytes.{Appends}
use Rattle.cast_io.specs.Causes.{Rose, HasCause}
use Rattle.cast_io.specs.Pieces.{AppendsPrefix}
use Rattle.caster_press.specs.declared.press.OutputStart.{OutputStart}
use Rattle.caster_press.specs.Written.{IsWritten}
use Rattle.caster_press.proofs.WrittenLemmas.{appends_more, cut_now, cut_still}

-- behind a text whose writing is torn nothing more is written
pub still_torn : (was : Bool) (start : OutputStart) (now : Option (List ℕ)) (faults : ℕ) (text more : List ℕ) → was ≡ true
    → IsWritten was start now faults text → IsWritten true start now faults (text ++ more)
still_torn was start now faults text more is written =
    let torn = subst (λ (b : Bool). IsWritten b start now faults text) is written in
    (cut_still start.taken now text more torn.0, torn.1)

-- behind one that is whole more was written, or the write of it failed
pub written_behind : {T E : Type 0} (r : Result T E) (was torn : Bool) (start : OutputStart) (now next : Option (List ℕ))
    (then after : ℕ) (text piece more : List ℕ) → was ≡ false → torn ≡ is_err r → piece ≡ more
    → IsWritten was start now then text → OnOk r (Appends now next piece) → OnErr r (AppendsPrefix now next piece)
    → HasCause then after r → OnOk r (after ≡ then) → IsWritten torn start next after (text ++ more)
written_behind (Ok x) was torn start now next then after text piece more whole is same written all cut cause unharmed =
    let so_far = subst (λ (b : Bool). IsWritten b start now then text) whole written in
    subst (λ (b : Bool). IsWritten b start next after (text ++ more)) (sym is)
    (appends_more start.taken now next text more so_far.0 (subst (Appends now next) same all), unharmed ∙ so_far.1)
written_behind (Err e) was torn start now next then after text piece more whole is same written all cut cause unharmed =
    let so_far = subst (λ (b : Bool). IsWritten b start now then text) whole written in
    subst (λ (b : Bool). IsWritten b start next after (text ++ more)) (sym is) (
      cut_now start.taken now next text more so_far.0 (subst (AppendsPrefix now next) same cut),
      subst (λ n. Rose n after) so_far.1 cause.failed,
    )

-- what holds where there is a value holds where there is one
pub when_made : {T E : Type 0} (r : Result T E) (P : Type 0) → is_ok r ≡ true → OnOk r P → P
when_made (Ok x) P is holds = holds
when_made (Err e) P is holds = absurd (let clash : false ≡ true = is in cc)
