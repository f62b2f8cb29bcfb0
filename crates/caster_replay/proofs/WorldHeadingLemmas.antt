-- The events of one connection among those of a script: how it opened, its bytes, and whether it
-- was closed; and what its heading says while more come.
use Rattle.std.proofs.Common.{◌≡◌, ◌≢◌, ◌∙◌, ℕ, Bool, true, false, cond, List, [], ◌∷◌, ◌++◌, refl, sym, ap, append_assoc, Option, None, Some}
use Rattle.std.proofs.lemmas.List.{append-nil}
use Rattle.std.specs.Prelude.{◌==◌}
use Rattle.session_script.specs.declared.Event.{Event}
use Rattle.session_script.specs.declared.Event.TheVariants as events
use Rattle.session_calls.specs.Steps.{Step}
use Rattle.cast_config.specs.declared.config.Config.{Config}
use Rattle.session_model.specs.Headings.{Heading}
use Rattle.session_model.specs.Judged.{Opening, sends_head, relays, bare_source, bare_rover, Judged, waiting, judged}
use Rattle.session_model.specs.Endings.{goes_on}
use Rattle.session_model.specs.Reports.{IsHeadingOf, opened_if, opened_as, bytes_to}
use Rattle.session_model.proofs.LawLemmas.{of_stays}
use Rattle.caster_replay.specs.Runs.{is_cut}

-- ---- what comes behind

-- a judgment that is not waited for stands on a heading that more bytes do not change
pub heading_keeps : (c : Config) (o : Opening) (h : Heading) (text bytes more : List ℕ) → judged c o h text ≢ waiting
    → IsHeadingOf (Some o) bytes h → IsHeadingOf (Some o) (bytes ++ more) h
heading_keeps c sends_head h text bytes more not is =
    of_stays sends_head bytes more h (λ e. not (ap (λ (h : Heading). judged c sends_head h text) e)) is
heading_keeps c (relays n) h text bytes more not is =
    of_stays (relays n) bytes more h (λ e. not (ap (λ (h : Heading). judged c (relays n) h text) e)) is
heading_keeps c (bare_source mount) h text bytes more not is = is
heading_keeps c (bare_rover mount) h text bytes more not is = is

-- a connection that is not closed and does not go on is judged
pub over_judged : (j : Judged) (steps : List Step) → goes_on j steps None ≡ false → j ≢ waiting
over_judged j steps over e =
    let goes : goes_on j steps None ≡ true = ap (λ (j : Judged). goes_on j steps None) e in absurd cc

-- ---- how it opened

abbrev pub or_later : Option Opening → Option Opening → Option Opening
or_later None later = later
or_later (Some opening) later = Some opening

if_later : (here : Bool) (opening : Opening) (first second : Option Opening)
    → opened_if here opening (or_later first second) ≡ or_later (opened_if here opening first) second
if_later true opening first second = refl
if_later false opening first second = refl

pub opened-append : (n : ℕ) (first second : List Event)
    → opened_as n (first ++ second) ≡ or_later (opened_as n first) (opened_as n second)
opened-append n [] second = refl
opened-append n (events.Open k ∷ first) second =
    ap (opened_if (k == n) sends_head) (opened-append n first second) ∙ if_later (k == n) sends_head _ _
opened-append n (events.Source k mount ∷ first) second =
    ap (opened_if (k == n) (bare_source mount)) (opened-append n first second)
    ∙ if_later (k == n) (bare_source mount) _ _
opened-append n (events.Rover k mount ∷ first) second =
    ap (opened_if (k == n) (bare_rover mount)) (opened-append n first second) ∙ if_later (k == n) (bare_rover mount) _ _
opened-append n (events.Relay k relay ∷ first) second =
    ap (opened_if (k == n) (relays relay)) (opened-append n first second) ∙ if_later (k == n) (relays relay) _ _
opened-append n (events.In k bytes ∷ first) second = opened-append n first second
opened-append n (events.Turn k budget ∷ first) second = opened-append n first second
opened-append n (events.Break k ∷ first) second = opened-append n first second
opened-append n (events.End k ∷ first) second = opened-append n first second

-- it stays so
pub opened_stays : (n : ℕ) (opening : Opening) (first second : List Event) → opened_as n first ≡ Some opening
    → opened_as n (first ++ second) ≡ Some opening
opened_stays n opening first second is =
    opened-append n first second ∙ ap (λ (o : Option Opening). or_later o (opened_as n second)) is

-- ---- whether it was closed

-- the bytes that count behind that
abbrev pub unless_cut : Bool → List ℕ → List ℕ
unless_cut true bytes = []
unless_cut false bytes = bytes

cut_if : (b x y : Bool) → cond b true x ≡ true → (x ≡ true → y ≡ true) → cond b true y ≡ true
cut_if true x y is on = refl
cut_if false x y is on = on is

pub cut_stays : (n : ℕ) (first second : List Event) → is_cut n first ≡ true → is_cut n (first ++ second) ≡ true
cut_stays n [] second is = absurd cc
cut_stays n (events.Open k ∷ first) second is = cut_stays n first second is
cut_stays n (events.Source k mount ∷ first) second is = cut_stays n first second is
cut_stays n (events.Rover k mount ∷ first) second is = cut_stays n first second is
cut_stays n (events.Relay k relay ∷ first) second is = cut_stays n first second is
cut_stays n (events.In k bytes ∷ first) second is = cut_stays n first second is
cut_stays n (events.Turn k budget ∷ first) second is = cut_stays n first second is
cut_stays n (events.Break k ∷ first) second is = cut_if (k == n) (is_cut n first) (is_cut n (first ++ second))
    is (cut_stays n first second)
cut_stays n (events.End k ∷ first) second is = cut_if (k == n) (is_cut n first) (is_cut n (first ++ second))
    is (cut_stays n first second)

uncut_if : (b x y z : Bool) → cond b true x ≡ false → (x ≡ false → y ≡ z) → cond b true y ≡ z
uncut_if true x y z is on = absurd cc
uncut_if false x y z is on = on is

pub uncut_on : (n : ℕ) (first second : List Event) → is_cut n first ≡ false
    → is_cut n (first ++ second) ≡ is_cut n second
uncut_on n [] second is = refl
uncut_on n (events.Open k ∷ first) second is = uncut_on n first second is
uncut_on n (events.Source k mount ∷ first) second is = uncut_on n first second is
uncut_on n (events.Rover k mount ∷ first) second is = uncut_on n first second is
uncut_on n (events.Relay k relay ∷ first) second is = uncut_on n first second is
uncut_on n (events.In k bytes ∷ first) second is = uncut_on n first second is
uncut_on n (events.Turn k budget ∷ first) second is = uncut_on n first second is
uncut_on n (events.Break k ∷ first) second is = uncut_if (k == n) (is_cut n first) _ _ is (uncut_on n first second)
uncut_on n (events.End k ∷ first) second is = uncut_if (k == n) (is_cut n first) _ _ is (uncut_on n first second)

-- ---- its bytes

bytes_if : (here : Bool) (bytes first : List ℕ) (cut : Bool) (second rest : List ℕ)
    → rest ≡ first ++ unless_cut cut second
    → cond here (bytes ++ rest) rest ≡ cond here (bytes ++ first) first ++ unless_cut cut second
bytes_if true bytes first cut second rest is =
    ap (λ (l : List ℕ). bytes ++ l) is ∙ sym (append_assoc bytes first (unless_cut cut second))
bytes_if false bytes first cut second rest is = is

none_if : (here : Bool) (first : List ℕ) (cut : Bool) (second rest : List ℕ) → rest ≡ first ++ unless_cut cut second
    → cond here [] rest ≡ cond here [] first ++ unless_cut (cond here true cut) second
none_if true first cut second rest is = refl
none_if false first cut second rest is = is

pub bytes-append : (n : ℕ) (first second : List Event)
    → bytes_to n (first ++ second) ≡ bytes_to n first ++ unless_cut (is_cut n first) (bytes_to n second)
bytes-append n [] second = refl
bytes-append n (events.Open k ∷ first) second = bytes-append n first second
bytes-append n (events.Source k mount ∷ first) second = bytes-append n first second
bytes-append n (events.Rover k mount ∷ first) second = bytes-append n first second
bytes-append n (events.Relay k relay ∷ first) second = bytes-append n first second
bytes-append n (events.In k bytes ∷ first) second =
    bytes_if (k == n) bytes (bytes_to n first) (is_cut n first) (bytes_to n second) _ (bytes-append n first second)
bytes-append n (events.Turn k budget ∷ first) second = bytes-append n first second
bytes-append n (events.Break k ∷ first) second =
    none_if (k == n) (bytes_to n first) (is_cut n first) (bytes_to n second) _ (bytes-append n first second)
bytes-append n (events.End k ∷ first) second =
    none_if (k == n) (bytes_to n first) (is_cut n first) (bytes_to n second) _ (bytes-append n first second)

-- those before more events are a beginning of them all
pub bytes_begin : (n : ℕ) (first second : List Event)
    → (rest : List ℕ) × (bytes_to n (first ++ second) ≡ bytes_to n first ++ rest)
bytes_begin n first second = (unless_cut (is_cut n first) (bytes_to n second), bytes-append n first second)

-- of a connection that was not closed before
pub bytes_on : (n : ℕ) (first second : List Event) → is_cut n first ≡ false
    → bytes_to n (first ++ second) ≡ bytes_to n first ++ bytes_to n second
bytes_on n first second uncut =
    bytes-append n first second
    ∙ ap (λ (b : Bool). bytes_to n first ++ unless_cut b (bytes_to n second)) uncut

-- and of one that was
pub bytes_stay : (n : ℕ) (first second : List Event) → is_cut n first ≡ true
    → bytes_to n (first ++ second) ≡ bytes_to n first
bytes_stay n first second closed =
    bytes-append n first second
    ∙ ap (λ (b : Bool). bytes_to n first ++ unless_cut b (bytes_to n second)) closed
    ∙ append-nil (bytes_to n first)
