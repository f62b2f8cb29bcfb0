-- What a status says of a script.
use Rattle.std.proofs.Common.{◌≡◌, ℕ, ◌+◌, ◌<◌, if◌then◌else◌, nat_lt, List, [], ◌∷◌, length, codes, Option, None, Some, Result, Ok, Err, IsOk, inl, inr, refl, sym, ◌∙◌, arith}
use Rattle.std.proofs.lemmas.Bool.{cases_Bool}
use Rattle.std.proofs.lemmas.Bool.Decides.{nat_tests}
use Rattle.std.specs.Str.{bytes_eq}
use Rattle.std.specs.Str.Lines.{lines}
use Rattle.session_script.specs.declared.Event.{Event}
use Rattle.session_script.specs.declared.ScriptKind.{ScriptKind}
use Rattle.session_script.specs.declared.ScriptFault.{ScriptFault}
use Rattle.session_script.specs.declared.ScriptFault.TheVariants.{Line, State, NoStop, Long}
use Rattle.session_script.specs.Line.{event_of_line}
use Rattle.session_script.specs.Numbers.{Numbers, no_numbers}
use Rattle.session_script.specs.Script.{is_skipped, may_follow, after_event, onto_events, events_of_lines, script_of}
use Rattle.cast_config.specs.declared.config.Config.{Config}
use Rattle.caster_top.specs.declared.command.RoverStart.{RoverStart}
use Rattle.caster_top.specs.Outcome.{ExitRule, exactly, document_of, report_of, closing_of, script_over, enough_of, fewer_than, ending_of_script}
use Rattle.caster_top.specs.Told.{IsNoSession}

-- ---- only the size of a script makes it too long

onto_long : (event : Event) (read : Result (List Event) ScriptFault) → onto_events event read ≡ Err Long
    → read ≡ Err Long
onto_long event (Ok events) h = absurd cc
onto_long event (Err fault) h = cc

-- an event's line, if the lines after it are not too long
event_not_long : (kind : ScriptKind) (n : ℕ) (numbers : Numbers) (event : Event)
    (rest : Result (List Event) ScriptFault) → (rest ≡ Err Long → ⊥)
    → (if may_follow kind numbers event then onto_events event rest else Err (State n)) ≡ Err Long → ⊥
event_not_long kind n numbers event rest short h = elim (cases_Bool (may_follow kind numbers event)) [
  | inl fits ↦ short (onto_long event rest (rw fits at h))
  | inr unfit ↦ let e = rw unfit at h in absurd cc
]

-- what was found on a line, if the lines after it are not too long
found_not_long : (kind : ScriptKind) (n : ℕ) (numbers : Numbers) (lines : List (List ℕ)) (found : Option Event)
    → ((event : Event) → events_of_lines kind (n + 1) (after_event numbers event) lines ≡ Err Long → ⊥)
    → elim found as (λ _. Result (List Event) ScriptFault) [
      | None ↦ Err (Line n)
      | Some event ↦
          if may_follow kind numbers event then onto_events event
          (events_of_lines kind (n + 1) (after_event numbers event) lines)
          else Err (State n)
    ] ≡ Err Long → ⊥
found_not_long kind n numbers lines None later h = absurd cc
found_not_long kind n numbers lines (Some event) later h = event_not_long kind n numbers event _ (later event) h

-- a line, if the lines after it are not too long
line_not_long : (kind : ScriptKind) (n : ℕ) (numbers : Numbers) (line : List ℕ) (lines : List (List ℕ))
    → (events_of_lines kind (n + 1) numbers lines ≡ Err Long → ⊥)
    → ((event : Event) → events_of_lines kind (n + 1) (after_event numbers event) lines ≡ Err Long → ⊥)
    → events_of_lines kind n numbers (line ∷ lines) ≡ Err Long → ⊥
unfolding events_of_lines
line_not_long kind n numbers line lines skipped later h = elim (cases_Bool (is_skipped line)) [
  | inl skips ↦ skipped (rw skips at h)
  | inr reads ↦ elim (cases_Bool (bytes_eq line (codes "stop"))) [
    | inl stops ↦ let e = rw (reads, stops) at h in absurd cc
    | inr goes ↦ found_not_long kind n numbers lines (event_of_line kind line) later (rw (reads, goes) at h)
  ]
]

lines_not_long : (kind : ScriptKind) (lines : List (List ℕ)) (n : ℕ) (numbers : Numbers)
    → events_of_lines kind n numbers lines ≡ Err Long → ⊥
unfolding events_of_lines
lines_not_long kind [] n numbers h = absurd cc
lines_not_long kind (line ∷ lines) n numbers h =
    line_not_long kind n numbers line lines (lines_not_long kind lines (n + 1) numbers)
    (λ event. lines_not_long kind lines (n + 1) (after_event numbers event)) h

script_long : (kind : ScriptKind) (bytes : List ℕ) → script_of kind bytes ≡ Err Long → 8388608 < length bytes
unfolding script_of
script_long kind bytes h = elim (cases_Bool (nat_lt 8388608 (length bytes))) [
  | inl long ↦ grind (arith, nat_tests, long)
  | inr short ↦ absurd (lines_not_long kind (lines bytes) 1 no_numbers (sym (rw short refl) ∙ h))
]

-- ---- statuses

-- the status that an ending has
abbrev pub status_of : ExitRule → ℕ
status_of (exactly wanted) = wanted.status
status_of (document_of c) = 0
status_of (report_of start c events) = 0
status_of (closing_of c) = 0
status_of (script_over c) = 0
status_of (enough_of frames) = 0
status_of (fewer_than frames) = 9

pub whole_script : (start : RoverStart) (c : Config) (script : Result (List Event) ScriptFault)
    → status_of (ending_of_script start c script) ≡ 0 → IsOk script
whole_script start c (Ok events) h = refl
whole_script start c (Err (Line n)) h = absurd (omega arith)
whole_script start c script h = absurd (omega arith)

pub script_not_usage : (start : RoverStart) (c : Config) (script : Result (List Event) ScriptFault)
    → status_of (ending_of_script start c script) ≡ 1 → ⊥
script_not_usage start c (Err (Line n)) h = omega arith
script_not_usage start c script h = omega arith

pub script_not_config : (start : RoverStart) (c : Config) (script : Result (List Event) ScriptFault)
    → status_of (ending_of_script start c script) ≡ 2 → ⊥
script_not_config start c (Err (Line n)) h = omega arith
script_not_config start c script h = omega arith

pub script_not_network : (start : RoverStart) (c : Config) (script : Result (List Event) ScriptFault)
    → status_of (ending_of_script start c script) ≡ 6 → ⊥
script_not_network start c (Err (Line n)) h = omega arith
script_not_network start c script h = omega arith

pub faulty_script : (start : RoverStart) (c : Config) (script : Result (List Event) ScriptFault)
    → status_of (ending_of_script start c script) ≡ 3 → IsNoSession script
faulty_script start c (Err (Line n)) h = tt
faulty_script start c (Err (State n)) h = tt
faulty_script start c (Err NoStop) h = tt
faulty_script start c script h = absurd (omega arith)

is_long : (start : RoverStart) (c : Config) (script : Result (List Event) ScriptFault)
    → status_of (ending_of_script start c script) ≡ 8 → script ≡ Err Long
is_long start c (Err Long) h = refl
is_long start c script h = absurd (omega arith)

pub long_script : (start : RoverStart) (c : Config) (kind : ScriptKind) (bytes : List ℕ)
    → status_of (ending_of_script start c (script_of kind bytes)) ≡ 8 → 8388608 < length bytes
long_script start c kind bytes h = script_long kind bytes (is_long start c (script_of kind bytes) h)
