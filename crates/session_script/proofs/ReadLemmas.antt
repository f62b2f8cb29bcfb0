-- Reading one line, and then those that follow.
use Rattle.std.proofs.Common.{◌≡◌, ℕ, ◌+◌, cond, List, [], ◌∷◌, ◌++◌, Option, Some, None, Result, Ok, Err, refl, sym, ap, subst, ◌∙◌, ◌<◌, ◌≤◌, length, inl, inr, append_assoc}
use Rattle.std.specs.Prelude.{codes}
use Rattle.std.specs.Str.{bytes_eq}
use Rattle.std.specs.Str.Lines.{lines}
use Rattle.std.proofs.lemmas.Bool.{cases_Bool, lt-ltb, le-ltb}
use Rattle.std.proofs.lemmas.List.{append-nil}
use Rattle.session_script.specs.declared.Event.{Event}
use Rattle.session_script.specs.declared.ScriptKind.{ScriptKind}
use Rattle.session_script.specs.declared.ScriptFault.{ScriptFault}
use Rattle.session_script.specs.declared.ScriptFault.TheVariants.{Line, State, NoStop, Long, Memory}
use Rattle.session_script.specs.declared.reading.LineRead.{LineRead}
use Rattle.session_script.specs.declared.reading.LineRead.TheVariants.{Skipped, Stop, Happens}
use Rattle.session_script.specs.Line.{event_of_line}
use Rattle.session_script.specs.Numbers.{Numbers, no_numbers}
use Rattle.session_script.specs.Script.{is_skipped, may_follow, after_event, onto_events, events_of_lines, script_of, Fails}
use Rattle.session_script.specs.Reading.{event_read, line_read, with_front}

-- what is read once the first line was read
abbrev pub after_line : ScriptKind → ℕ → Numbers → List (List ℕ) → Result LineRead ScriptFault
    → Result (List Event) ScriptFault
after_line kind n numbers lines (Ok Skipped) = events_of_lines kind (n + 1) numbers lines
after_line kind n numbers lines (Ok Stop) = Ok []
after_line kind n numbers lines (Ok (Happens event)) = onto_events event
    (events_of_lines kind (n + 1) (after_event numbers event) lines)
after_line kind n numbers lines (Err fault) = Err fault

-- what is read where the first line is neither skipped nor `stop`
abbrev event_then : ScriptKind → ℕ → Numbers → List (List ℕ) → Option Event → Result (List Event) ScriptFault
event_then kind n numbers lines None = Err (Line n)
event_then kind n numbers lines (Some event) =
    cond (may_follow kind numbers event)
    (onto_events event (events_of_lines kind (n + 1) (after_event numbers event) lines)) (Err (State n))

step_event : (kind : ScriptKind) (n : ℕ) (numbers : Numbers) (lines : List (List ℕ)) (found : Option Event)
    → event_then kind n numbers lines found ≡ after_line kind n numbers lines (event_read kind n numbers found)
unfolding events_of_lines
step_event kind n numbers lines None = refl
step_event kind n numbers lines (Some event) =
    elim (cases_Bool (may_follow kind numbers event)) [
      | inl may ↦ rw may refl
      | inr not ↦ rw not refl
    ]

-- one line, and then the others
pub events_of_lines-step : (kind : ScriptKind) (n : ℕ) (numbers : Numbers) (line : List ℕ) (lines : List (List ℕ))
    → events_of_lines kind n numbers (line ∷ lines) ≡ after_line kind n numbers lines (line_read kind n numbers line)
unfolding events_of_lines
events_of_lines-step kind n numbers line lines =
    elim (cases_Bool (is_skipped line)) [
      | inl skipped ↦ rw skipped refl
      | inr other ↦ elim (cases_Bool (bytes_eq line (codes "stop"))) [
        | inl stops ↦ rw (other, stops) refl
        | inr event ↦ rw (other, event) (step_event kind n numbers lines (event_of_line kind line))
      ]
    ]

-- ---- with the events before

-- the line is no event
pub goes_on_skipped : (kind : ScriptKind) (n : ℕ) (numbers : Numbers) (line : List ℕ) (lines : List (List ℕ))
    (front : List Event)
    → line_read kind n numbers line ≡ Ok Skipped
    → with_front front (events_of_lines kind n numbers (line ∷ lines)) ≡ with_front front
    (events_of_lines kind (n + 1) numbers lines)
goes_on_skipped kind n numbers line lines front read =
    ap (with_front front) (events_of_lines-step kind n numbers line lines ∙ ap (after_line kind n numbers lines) read)

-- the line is `stop`
pub goes_on_stop : (kind : ScriptKind) (n : ℕ) (numbers : Numbers) (line : List ℕ) (lines : List (List ℕ))
    (front : List Event)
    → line_read kind n numbers line ≡ Ok Stop
    → with_front front (events_of_lines kind n numbers (line ∷ lines)) ≡ Ok front
goes_on_stop kind n numbers line lines front read =
    ap (with_front front) (events_of_lines-step kind n numbers line lines ∙ ap (after_line kind n numbers lines) read)
    ∙ ap (λ (events : List Event). Ok events) (append-nil front)

regroup : (front : List Event) (event : Event) (read : Result (List Event) ScriptFault)
    → with_front front (onto_events event read) ≡ with_front (front ++ event ∷ []) read
regroup front event (Ok events) = ap (λ (es : List Event). Ok es) (sym (append_assoc front (event ∷ []) events))
regroup front event (Err fault) = refl

-- the line is an event
pub goes_on_event : (kind : ScriptKind) (n : ℕ) (numbers after : Numbers) (line : List ℕ) (lines : List (List ℕ))
    (front fronts : List Event) (event : Event)
    → line_read kind n numbers line ≡ Ok (Happens event) → after ≡ after_event numbers event
    → fronts ≡ front ++ event ∷ []
    → with_front front (events_of_lines kind n numbers (line ∷ lines)) ≡ with_front fronts
    (events_of_lines kind (n + 1) after lines)
goes_on_event kind n numbers after line lines front fronts event read a f =
    ap (with_front front) (events_of_lines-step kind n numbers line lines ∙ ap (after_line kind n numbers lines) read)
    ∙ regroup front event (events_of_lines kind (n + 1) (after_event numbers event) lines)
    ∙ rw (a, f) refl

faulty : (kind : ScriptKind) (n : ℕ) (numbers : Numbers) (line : List ℕ) (lines : List (List ℕ)) (front : List Event)
    (fault : ScriptFault)
    → line_read kind n numbers line ≡ Err fault
    → with_front front (events_of_lines kind n numbers (line ∷ lines)) ≡ Err fault
faulty kind n numbers line lines front fault read =
    ap (with_front front) (events_of_lines-step kind n numbers line lines ∙ ap (after_line kind n numbers lines) read)

-- the line is faulty
pub fails_there : (kind : ScriptKind) (n : ℕ) (numbers : Numbers) (line : List ℕ) (lines : List (List ℕ))
    (front : List Event) (fault : ScriptFault)
    → Fails fault (line_read kind n numbers line)
    → Fails fault (with_front front (events_of_lines kind n numbers (line ∷ lines)))
fails_there kind n numbers line lines front Memory fails = tt
fails_there kind n numbers line lines front (Line k) fails = faulty kind n numbers line lines front (Line k) fails
fails_there kind n numbers line lines front (State k) fails = faulty kind n numbers line lines front (State k) fails
fails_there kind n numbers line lines front NoStop fails = faulty kind n numbers line lines front NoStop fails
fails_there kind n numbers line lines front Long fails = faulty kind n numbers line lines front Long fails

-- ---- whole scripts

pub script_small : (kind : ScriptKind) (bytes : List ℕ) → length bytes ≤ 8388608
    → script_of kind bytes ≡ events_of_lines kind 1 no_numbers (lines bytes)
unfolding script_of
script_small kind bytes small = rw (le-ltb 8388608 (length bytes) small) refl

pub script_long : (kind : ScriptKind) (bytes : List ℕ) → 8388608 < length bytes → script_of kind bytes ≡ Err Long
unfolding script_of
script_long kind bytes long = rw (lt-ltb 8388608 (length bytes) long) refl

pub Fails-at : {Y : Type 0} (fault : ScriptFault) (a b : Result Y ScriptFault) → a ≡ b → Fails fault a → Fails fault b
Fails-at {Y} fault a b same fails = subst (λ (r : Result Y ScriptFault). Fails fault r) same fails

pub no_more : (kind : ScriptKind) (n : ℕ) (numbers : Numbers) (front : List Event)
    → with_front front (events_of_lines kind n numbers []) ≡ Err NoStop
unfolding events_of_lines
no_more kind n numbers front = refl
