-- What an output holds after one line more.
use Rattle.std.proofs.Common.{◌≡◌, ◌∙◌, ℕ, zero, suc, ◌+◌, ◌-◌, ◌<◌, ◌≤◌, ◌⊎◌, inl, inr, Bool, true, false, List, [], ◌∷◌, ◌++◌, length, take, refl, sym, ap, subst, arith, append_assoc, append-nil, length-append}
use Rattle.std.specs.Prelude.{Option, None, Some, Result, Ok, Err, OnOk, OnErr, is_err}
use Rattle.std.proofs.lemmas.Bool.{cases_lt}
use Rattle.std.proofs.lemmas.List.{take-append-le, length-take, length-take-le}
use lib.Seq.{take-append-add}
use Rattle.std.specs.Io.KnownBytes.{Appends}
use Rattle.cast_io.specs.Causes.{Rose, HasCause}
use Rattle.cast_io.specs.Pieces.{AppendsPrefix}
use Rattle.turn_log.specs.History.{History}
use Rattle.caster_press.specs.declared.line.Line.{Line}
use Rattle.caster_press.specs.declared.press.OutputStart.{OutputStart}
use Rattle.caster_press.specs.Lines.{IsFirstOf, text_of, text_in}
use Rattle.caster_press.specs.Written.{IsCut, IsWritten}

-- the text of a history with one line more
pub text_in-snoc : (h : History Line) (me : ℕ) (line : Line)
    → text_in (h ++ (me, line) ∷ []) ≡ text_in h ++ text_of line
text_in-snoc [] me line = append-nil (text_of line)
text_in-snoc (e ∷ h) me line =
    ap (λ l. text_of e.1 ++ l) (text_in-snoc h me line) ∙ sym (append_assoc (text_of e.1) (text_in h) (text_of line))

pub appends_more : (start now next : Option (List ℕ)) (text piece : List ℕ) → Appends start now text
    → Appends now next piece → Appends start next (text ++ piece)
appends_more None now next text piece first second = tt
appends_more (Some xs) None next text piece first second = absurd first
appends_more (Some xs) (Some ws) None text piece first second = absurd second
appends_more (Some xs) (Some ws) (Some ys) text piece first second =
    second ∙ ap (λ l. l ++ piece) first ∙ append_assoc xs text piece

-- the last piece was cut
pub cut_now : (start now next : Option (List ℕ)) (text piece : List ℕ) → Appends start now text
    → AppendsPrefix now next piece → IsCut start next (text ++ piece)
cut_now None now next text piece first second = tt
cut_now (Some xs) None next text piece first second = absurd first
cut_now (Some xs) (Some ws) None text piece first second = absurd second.2
cut_now (Some xs) (Some ws) (Some ys) text piece first second =
    let n = second.0 in
    let cut : length (take n piece) ≡ n = length-take-le n piece second.1 in
    let is : ys ≡ xs ++ (text ++ take n piece) =
    second.2 ∙ ap (λ l. l ++ take n piece) first ∙ append_assoc xs text (take n piece) in
    let long : length ys - length xs ≡ length text + n =
    omega (arith, ap length is, length-append xs (text ++ take n piece), length-append text (take n piece), cut) in
    is ∙ ap (λ l. xs ++ l)
    (sym (take-append-add text piece n) ∙ ap (λ k. take k (text ++ piece)) (sym long))

-- nothing is written after a cut
pub cut_still : (start now : Option (List ℕ)) (text piece : List ℕ) → IsCut start now text
    → IsCut start now (text ++ piece)
cut_still None now text piece cut = tt
cut_still (Some xs) None text piece cut = absurd cut
cut_still (Some xs) (Some ys) text piece cut =
    let k = length ys - length xs in
    let short : k ≤ length text =
    omega (arith, ap length cut, length-append xs (take k text), length-take k text) in
    cut ∙ ap (λ l. xs ++ l) (sym (take-append-le k text piece short))

-- what was written of a text whose writing was cut
pub first_part : (start now : Option (List ℕ)) (text : List ℕ) → IsCut start now text → AppendsPrefix start now text
first_part None now text cut = (0, omega arith, tt)
first_part (Some xs) None text cut = absurd cut
first_part (Some xs) (Some ys) text cut =
    let k = length ys - length xs in
    (k, omega (arith, ap length cut, length-append xs (take k text), length-take k text), cut)

take_none : {X : Type 0} (n : ℕ) → take {A = X} n [] ≡ []
take_none zero = refl
take_none (suc n) = refl

-- the first bytes of a history's text
first_of : (h : History Line) (n : ℕ) → IsFirstOf (take n (text_in h)) h
first_of [] n = record { done = []; rest = []; part = []; all = refl; next = refl; text_is = take_none n }
first_of (e ∷ h) n = by (cases_lt n (length (text_of e.1))) (first_of h (n - length (text_of e.1))) where
  by : (n < length (text_of e.1)) ⊎ (length (text_of e.1) ≤ n)
      → IsFirstOf (take (n - length (text_of e.1)) (text_in h)) h → IsFirstOf (take n (text_in (e ∷ h))) (e ∷ h)
  by (inl less) later = record {
    done = [];
    rest = e ∷ h;
    part = take n (text_of e.1);
    all = refl;
    next = (n, less, refl);
    text_is = take-append-le n (text_of e.1) (text_in h) (omega (arith, less));
  }
  by (inr more) later = record {
    done = e ∷ later.done;
    rest = later.rest;
    part = later.part;
    all = ap (λ l. e ∷ l) later.all;
    next = later.next;
    text_is =
        ap (λ k. take k (text_of e.1 ++ text_in h))
        (let k : n ≡ length (text_of e.1) + (n - length (text_of e.1)) = omega (arith, more) in k)
        ∙ take-append-add (text_of e.1) (text_in h) (n - length (text_of e.1))
        ∙ ap (λ l. text_of e.1 ++ l) later.text_is
        ∙ sym (append_assoc (text_of e.1) (text_in later.done) later.part);
  }

-- the same of an output whose writing was cut
pub first_lines : (start now : Option (List ℕ)) (h : History Line) → IsCut start now (text_in h)
    → (text : List ℕ) × Appends start now text × IsFirstOf text h
first_lines None now h cut = (take 0 (text_in h), tt, first_of h 0)
first_lines (Some xs) None h cut = absurd cut
first_lines (Some xs) (Some ys) h cut =
    let k = length ys - length xs in (take k (text_in h), cut, first_of h k)

-- a line was written, or the write of it failed
written_by : {T E : Type 0} (r : Result T E) (start : OutputStart) (now next : Option (List ℕ)) (then after : ℕ)
    (text piece : List ℕ) → IsWritten false start now then text → OnOk r (Appends now next piece)
    → OnErr r (AppendsPrefix now next piece) → HasCause then after r → OnOk r (after ≡ then)
    → IsWritten (is_err r) start next after (text ++ piece)
written_by (Ok x) start now next then after text piece so_far whole torn cause same =
    (appends_more start.taken now next text piece so_far.0 whole, same ∙ so_far.1)
written_by (Err e) start now next then after text piece so_far whole torn cause same = (
  cut_now start.taken now next text piece so_far.0 torn,
  subst (λ n. Rose n after) so_far.1 cause.failed,
)

-- ---- in the words of a press

-- nothing more was written
pub written_still : (torn : Bool) → torn ≡ true → (start : OutputStart) (now : Option (List ℕ)) (then : ℕ)
    (h : History Line) (me : ℕ) (line : Line) → IsWritten torn start now then (text_in h)
    → IsWritten torn start now then (text_in (h ++ (me, line) ∷ []))
written_still torn is start now then h me line stands =
    let was = subst (λ (b : Bool). IsWritten b start now then (text_in h)) is stands in
    subst (λ t. IsWritten torn start now then t) (sym (text_in-snoc h me line))
    (subst (λ (b : Bool). IsWritten b start now then (text_in h ++ text_of line)) (sym is)
    (cut_still start.taken now (text_in h) (text_of line) was.0, was.1))

-- a line was written, or the write of it failed
pub written_line : {T E : Type 0} (r : Result T E) (was torn : Bool) → was ≡ false → torn ≡ is_err r
    → (start : OutputStart) (now next : Option (List ℕ)) (then after : ℕ) (h : History Line) (me : ℕ) (line : Line)
    (piece : List ℕ) → piece ≡ text_of line
    → IsWritten was start now then (text_in h) → OnOk r (Appends now next piece)
    → OnErr r (AppendsPrefix now next piece) → HasCause then after r → OnOk r (after ≡ then)
    → IsWritten torn start next after (text_in (h ++ (me, line) ∷ []))
written_line r was torn whole is start now next then after h me line piece same stands all cut cause unharmed =
    subst (λ t. IsWritten torn start next after t) (sym (text_in-snoc h me line))
    (subst (λ p. IsWritten torn start next after (text_in h ++ p)) same
    (subst (λ (b : Bool). IsWritten b start next after (text_in h ++ piece)) (sym is)
    (written_by r start now next then after (text_in h) piece
    (subst (λ (b : Bool). IsWritten b start now then (text_in h)) whole stands) all cut cause unharmed)))

-- the same start by another name
pub written_from : (torn : Bool) (start from : OutputStart) (taken : Option (List ℕ)) (faults : ℕ) (text : List ℕ)
    → start ≡ from → IsWritten torn start taken faults text → IsWritten torn from taken faults text
written_from torn start from taken faults text same written =
    subst (λ (s : OutputStart). IsWritten torn s taken faults text) same written

-- what an output told at the start
pub start_is : (start : OutputStart) (taken : Option (List ℕ)) (faults : ℕ) → start.taken ≡ taken → start.faults ≡ faults
    → start ≡ record { taken = taken; faults = faults }
start_is start taken faults same as_often =
    ap (λ (t : Option (List ℕ)). record { taken = t; faults = start.faults }) same
    ∙ ap (λ (f : ℕ). record { taken = taken; faults = f }) as_often
