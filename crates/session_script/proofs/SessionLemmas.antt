-- What is read is a session, and no longer than the bytes.
use Rattle.std.proofs.Common.{◌≡◌, ℕ, ◌+◌, ◌≤◌, true, ◌&&◌, List, [], ◌∷◌, length, Option, Some, None, Result, Ok, Err, refl, sym, ap, subst, ◌∙◌, arith, inl, inr}
use Rattle.std.specs.Prelude.{codes, sum_by, IfOk}
use Rattle.std.specs.Global.{Vec}
use Rattle.std.specs.Str.{bytes_eq}
use Rattle.std.specs.Str.Lines.{lines}
use Rattle.std.proofs.lemmas.Bool.{cases_Bool, and_from, cases_lt}
use Rattle.std.proofs.lemmas.List.Sums.{sum_by-cons}
use Rattle.session_script.specs.declared.Event.{Event}
use Rattle.session_script.specs.declared.ScriptKind.{ScriptKind}
use Rattle.session_script.specs.declared.ScriptFault.{ScriptFault}
use Rattle.session_script.specs.declared.ScriptFault.TheVariants.{NoStop}
use Rattle.session_script.specs.declared.reading.LineRead.{LineRead}
use Rattle.session_script.specs.declared.reading.LineRead.TheVariants.{Skipped, Stop, Happens}
use Rattle.session_script.specs.Line.{is_event, event_of_line}
use Rattle.session_script.specs.Numbers.{Numbers, no_numbers}
use Rattle.session_script.specs.Script.{is_skipped, may_follow, after_event, is_session_after, onto_events, events_of_lines, script_of, items_of, Gives, input_length}
use Rattle.session_script.specs.Reading.{event_read, line_read}
use Rattle.session_script.proofs.ReadLemmas.{after_line, events_of_lines-step, script_small, script_long}
use Rattle.session_script.proofs.SoundLemmas.{IsSound, line_sound, lengths, lengths-lines}

abbrev happens : Event → Result LineRead ScriptFault
happens event = Ok (Happens event)

happens_is : (a b : Event) → happens a ≡ happens b → a ≡ b
happens_is a b e = cc

found_is : (kind : ScriptKind) (n : ℕ) (numbers : Numbers) (found : Option Event) (event : Event)
    → event_read kind n numbers found ≡ Ok (Happens event)
    → (found ≡ Some event) × (may_follow kind numbers event ≡ true)
found_is kind n numbers None event e = absurd cc
found_is kind n numbers (Some other) event e =
    elim (cases_Bool (may_follow kind numbers other)) [
      | inl may ↦
          let same = happens_is other event (rw may at e) in
          (ap (λ (x : Event). Some x) same, subst (λ (x : Event). may_follow kind numbers x ≡ true) same may)
      | inr not ↦ absurd (let h = rw not at e in cc)
    ]

-- a line that is read as an event has that event, which may come there
read_is : (kind : ScriptKind) (n : ℕ) (numbers : Numbers) (line : List ℕ) (event : Event)
    → line_read kind n numbers line ≡ Ok (Happens event)
    → (event_of_line kind line ≡ Some event) × (may_follow kind numbers event ≡ true)
read_is kind n numbers line event e =
    elim (cases_Bool (is_skipped line)) [
      | inl skipped ↦ absurd (let h = rw skipped at e in cc)
      | inr a ↦ elim (cases_Bool (bytes_eq line (codes "stop"))) [
        | inl stops ↦ absurd (let h = rw (a, stops) at e in cc)
        | inr b ↦ found_is kind n numbers (event_of_line kind line) event (rw (a, b) at e)
      ]
    ]

-- the events are a session, and no longer than this
record IsRead (kind : ScriptKind) (numbers : Numbers) (events : List Event) (size : ℕ) : Type 0 where
  session : is_session_after kind numbers events ≡ true
  fits : length events + sum_by input_length events ≤ size

onto_is : (event : Event) (read : Result (List Event) ScriptFault) (events : List Event)
    → onto_events event read ≡ Ok events
    → (others : List Event) × (read ≡ Ok others) × (events ≡ event ∷ others)
onto_is event (Ok others) events e = (others, refl, cc)
onto_is event (Err fault) events e = absurd cc

abbrev read_ok : List Event → Result (List Event) ScriptFault
read_ok events = Ok events

read_ok_is : (a b : List Event) → read_ok a ≡ read_ok b → a ≡ b
read_ok_is a b e = cc

more_is : (kind : ScriptKind) (numbers : Numbers) (event : Event) (others : List Event) (line size : ℕ)
    → IsSound kind event (line + 1) → may_follow kind numbers event ≡ true
    → IsRead kind (after_event numbers event) others size
    → IsRead kind numbers (event ∷ others) (line + size)
more_is kind numbers event others line size sound may read =
    let sum = sum_by-cons input_length event others in
    record {
      session = and_from (is_event kind event && may_follow kind numbers event)
          (is_session_after kind (after_event numbers event) others)
          (and_from (is_event kind event) (may_follow kind numbers event) sound.in_grammar may) read.session;
      fits = omega (arith, sum, sound.fits, read.fits);
    }

line_then : (kind : ScriptKind) (n : ℕ) (numbers : Numbers) (line : List ℕ) (ls : List (List ℕ))
    (events : List Event) (read : Result LineRead ScriptFault)
    → line_read kind n numbers line ≡ read → after_line kind n numbers ls read ≡ Ok events
    → ((n : ℕ) (numbers : Numbers) (events : List Event) → events_of_lines kind n numbers ls ≡ Ok events
    → IsRead kind numbers events (lengths ls))
    → IsRead kind numbers events (length line + lengths ls)
line_then kind n numbers line ls events (Ok Skipped) is e others =
    let h = others (n + 1) numbers events e in record { session = h.session; fits = let f = h.fits in omega arith }
line_then kind n numbers line ls events (Ok Stop) is e others =
    subst (λ (es : List Event). IsRead kind numbers es (length line + lengths ls)) (read_ok_is [] events e)
    (record { session = refl; fits = omega arith })
line_then kind n numbers line ls events (Ok (Happens event)) is e others =
    let o = onto_is event (events_of_lines kind (n + 1) (after_event numbers event) ls) events e in
    let r = read_is kind n numbers line event is in
    rw o.2 (more_is kind numbers event o.0 (length line) (lengths ls) (line_sound kind line event r.0) r.1
    (others (n + 1) (after_event numbers event) o.0 o.1))
line_then kind n numbers line ls events (Err fault) is e others = absurd cc

no_lines : (kind : ScriptKind) (n : ℕ) (numbers : Numbers) → events_of_lines kind n numbers [] ≡ Err NoStop
unfolding events_of_lines
no_lines kind n numbers = refl

lines_read : (kind : ScriptKind) (n : ℕ) (numbers : Numbers) (ls : List (List ℕ)) (events : List Event)
    → events_of_lines kind n numbers ls ≡ Ok events
    → IsRead kind numbers events (lengths ls)
lines_read kind n numbers [] events e = absurd (let h = sym (no_lines kind n numbers) ∙ e in cc)
lines_read kind n numbers (line ∷ ls) events e =
    line_then kind n numbers line ls events (line_read kind n numbers line) refl
    (sym (events_of_lines-step kind n numbers line ls) ∙ e)
    (λ n numbers events h. lines_read kind n numbers ls events h)

-- a script that is read
pub record IsScript (kind : ScriptKind) (bytes : List ℕ) (events : List Event) : Type 0 where
  pub small : length bytes ≤ 8388608
  pub session : is_session_after kind no_numbers events ≡ true
  pub fits : length events + sum_by input_length events ≤ length bytes

pub script_read : (kind : ScriptKind) (bytes : List ℕ) (events : List Event) → script_of kind bytes ≡ Ok events
    → IsScript kind bytes events
script_read kind bytes events e =
    elim (cases_lt 8388608 (length bytes)) [
      | inl long ↦ absurd (let h = sym (script_long kind bytes long) ∙ e in cc)
      | inr small ↦
          let read = lines_read kind 1 no_numbers (lines bytes) events (sym (script_small kind bytes small) ∙ e) in
          let all = lengths-lines bytes in
          record { small = small; session = read.session; fits = let f = read.fits in omega arith }
    ]

-- what a call returned
pub IsScript-result : (kind : ScriptKind) (bytes : List ℕ) (r : Result (Vec Event) ScriptFault)
    → Gives (items_of r) (script_of kind bytes)
    → IfOk r (λ events. IsScript kind bytes events.items)
IsScript-result kind bytes (Ok events) given = script_read kind bytes events.items given
IsScript-result kind bytes (Err fault) given = tt
