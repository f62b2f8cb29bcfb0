-- What a runner needs of a script: nothing happens to a number before it opens, and no connection
-- has more bytes than came in.
use Rattle.std.proofs.Common.{◌≡◌, ◌≢◌, ◌∙◌, ◌<◌, ◌≤◌, ◌++◌, ◌+◌, ◌^◌, ℕ, Bool, true, false, cond, List, [], ◌∷◌, length, length-append, get_or, refl, sym, ap, subst, inl, arith, Option, None, Some}
use Rattle.std.specs.Prelude.{◌==◌, ◌&&◌, ◌||◌}
use Rattle.std.specs.List.{sum_by}
use Rattle.std.proofs.lemmas.Bool.{and_parts, eq-eqb, ne_eqb, false≢true}
use Rattle.std.proofs.lemmas.List.{append-nil}
use Rattle.std.proofs.lemmas.List.Sums.{sum_by-cons}
use Rattle.session_script.specs.declared.Event.{Event}
use Rattle.session_script.specs.declared.Event.TheVariants as events
use Rattle.session_script.specs.declared.ScriptKind.{ScriptKind}
use Rattle.session_script.specs.Line.{is_event}
use Rattle.session_script.specs.Numbers.{Numbers, no_numbers, is_among, may_speak, opening, closing}
use Rattle.session_script.specs.Script.{may_follow, is_session_after, IsSession, input_length}
use Rattle.session_script.specs.Script as scripts
use Rattle.cast_config.specs.declared.config.Config.{Config}
use Rattle.session_core.specs.declared.session.Session.{Session}
use Rattle.session_model.specs.Judged.{Opening, sends_head, relays, bare_source, bare_rover}
use Rattle.session_model.specs.Reports.{opened_as, bytes_to, opened_if}
use Rattle.session_model.specs.Run.{Histories}
use Rattle.session_model.specs.Called.{OthersCalled}
use Rattle.session_core.specs.Standing.{StandsFor, Follows}
use Rattle.session_core.specs.Turned.{is_rover}
use Rattle.caster_replay.specs.Lives.{Live, live_of}
use Rattle.caster_replay.specs.Calls.{Feeds, TakesTurn}
use Rattle.caster_replay.specs.Runs.{is_cut}
use Rattle.session_calls.specs.Steps.{Step}
use Rattle.caster_replay.specs.declared.run_connection.State.TheVariants.{Open}
use Rattle.caster_replay.proofs.WorldKnownLemmas.{IsClean}
use Rattle.caster_replay.proofs.WorldRunnerLemmas.{IsRun, headings_now, are_now, there, IsFound, found}

-- ---- the order of events

-- of a number that none of these opened
abbrev IsUntouched : ℕ → List Event → Type 0
IsUntouched n list = (bytes_to n list ≡ []) × (is_cut n list ≡ false)

-- who may speak was opened, and so is another than one that was not
spoken_other : (numbers : Numbers) (k n : ℕ) → may_speak numbers k ≡ true → is_among n numbers.opened ≡ false → k ≢ n
spoken_other numbers k n speaks none e =
    let was : is_among k numbers.opened ≡ true =
    (and_parts (is_among k numbers.opened) _ speaks).0 in
    absurd (false≢true (sym none ∙ ap (λ (i : ℕ). is_among i numbers.opened) (sym e) ∙ was))

opened_other : (k n : ℕ) (o : Opening) (later : Option Opening) → opened_if (k == n) o later ≡ None
    → (k ≢ n) × (later ≡ None)
opened_other k n o later none = (
  λ e. absurd (some_not (sym (ap (λ (b : Bool). opened_if b o later) (eq-eqb k n e)) ∙ none)),
  opened_later (k == n) o later none,
)
  where
    some_not : Some o ≡ None → ⊥
    some_not e = absurd cc

    opened_later : (b : Bool) (o : Opening) (later : Option Opening) → opened_if b o later ≡ None → later ≡ None
    opened_later true o later none = absurd cc
    opened_later false o later none = none

among_more : (n k : ℕ) (numbers : List ℕ) → is_among n numbers ≡ false → k ≢ n
    → is_among n (numbers ++ k ∷ []) ≡ false
among_more n k [] none apart = ap (λ (b : Bool). b || false) (ne_eqb k n apart)
among_more n k (i ∷ numbers) none apart = among_if (i == n) (is_among n numbers) (is_among n (numbers ++ k ∷ [])) none
    (λ rest. among_more n k numbers rest apart)
  where
    among_if : (a b later : Bool) → (a || b) ≡ false → (b ≡ false → later ≡ false) → (a || later) ≡ false
    among_if true b later none on = absurd cc
    among_if false b later none on = on none

module _ (kind : ScriptKind) (later : List Event) (n : ℕ) where
  -- the parts of what is said of an event and of those behind it
  rest_of : (numbers : Numbers) (event : Event) (list : List Event)
      → is_session_after kind numbers (event ∷ list) ≡ true
      → (may_follow kind numbers event ≡ true)
      × (is_session_after kind (scripts.after_event numbers event) list ≡ true)
  rest_of numbers event list is =
      let behind : Bool = is_session_after kind (scripts.after_event numbers event) list in
      let both = and_parts (is_event kind event && may_follow kind numbers event) behind is in
      ((and_parts (is_event kind event) (may_follow kind numbers event) both.0).1, both.1)

  clean_after : (numbers : Numbers) (list : List Event) → is_session_after kind numbers (list ++ later) ≡ true
      → is_among n numbers.opened ≡ false → opened_as n list ≡ None → IsUntouched n list
  clean_after numbers [] is none unopened = (refl, refl)
  clean_after numbers (events.Source k mount ∷ list) is none unopened =
      let rest = rest_of numbers (events.Source k mount) (list ++ later) is in
      let other = opened_other k n (bare_source mount) (opened_as n list) unopened in
      clean_after (opening numbers k) list rest.1 (among_more n k numbers.opened none other.0) other.1
  clean_after numbers (events.Rover k mount ∷ list) is none unopened =
      let rest = rest_of numbers (events.Rover k mount) (list ++ later) is in
      let other = opened_other k n (bare_rover mount) (opened_as n list) unopened in
      clean_after (opening numbers k) list rest.1 (among_more n k numbers.opened none other.0) other.1
  clean_after numbers (events.Open k ∷ list) is none unopened =
      let rest = rest_of numbers (events.Open k) (list ++ later) is in
      let other = opened_other k n sends_head (opened_as n list) unopened in
      clean_after (opening numbers k) list rest.1 (among_more n k numbers.opened none other.0) other.1
  clean_after numbers (events.Relay k relay ∷ list) is none unopened =
      let rest = rest_of numbers (events.Relay k relay) (list ++ later) is in
      let other = opened_other k n (relays relay) (opened_as n list) unopened in
      clean_after (opening numbers k) list rest.1 (among_more n k numbers.opened none other.0) other.1
  clean_after numbers (events.In k bytes ∷ list) is none unopened =
      let rest = rest_of numbers (events.In k bytes) (list ++ later) is in
      let behind = clean_after numbers list rest.1 none unopened in (
        ap (λ (b : Bool). cond b (bytes ++ bytes_to n list) (bytes_to n list))
            (ne_eqb k n (spoken_other numbers k n rest.0 none)) ∙ behind.0,
        behind.1,
      )
  clean_after numbers (events.Turn k budget ∷ list) is none unopened =
      let rest = rest_of numbers (events.Turn k budget) (list ++ later) is in
      clean_after numbers list rest.1 none unopened
  clean_after numbers (events.Break k ∷ list) is none unopened =
      let rest = rest_of numbers (events.Break k) (list ++ later) is in
      let behind = clean_after (closing numbers k) list rest.1 none unopened in
      let other = ne_eqb k n (spoken_other numbers k n rest.0 none) in (
        ap (λ (b : Bool). cond b [] (bytes_to n list)) other ∙ behind.0,
        ap (λ (b : Bool). cond b true (is_cut n list)) other ∙ behind.1,
      )
  clean_after numbers (events.End k ∷ list) is none unopened =
      let rest = rest_of numbers (events.End k) (list ++ later) is in
      let behind = clean_after (closing numbers k) list rest.1 none unopened in
      let other = ne_eqb k n (spoken_other numbers k n rest.0 none) in (
        ap (λ (b : Bool). cond b [] (bytes_to n list)) other ∙ behind.0,
        ap (λ (b : Bool). cond b true (is_cut n list)) other ∙ behind.1,
      )

-- ---- bytes

in_within : (b : Bool) (bytes rest : List ℕ) (total : ℕ) → length rest ≤ total
    → length (cond b (bytes ++ rest) rest) ≤ length bytes + total
in_within true bytes rest total few = omega (arith, few, length-append bytes rest)
in_within false bytes rest total few = omega (arith, few)

none_within : (b : Bool) (rest : List ℕ) (total : ℕ) → length rest ≤ total → length (cond b [] rest) ≤ total
none_within true rest total few = omega arith
none_within false rest total few = few

pub bytes_within : (n : ℕ) (script : List Event) → length (bytes_to n script) ≤ sum_by input_length script
bytes_within n [] = omega arith
bytes_within n (events.Source k mount ∷ list) = omega (
  arith,
  bytes_within n list,
  sum_by-cons input_length
      (events.Source k mount) list,
)
bytes_within n (events.Rover k mount ∷ list) = omega (
  arith,
  bytes_within n list,
  sum_by-cons input_length
      (events.Rover k mount) list,
)
bytes_within n (events.Open k ∷ list) = omega (
  arith,
  bytes_within n list,
  sum_by-cons input_length (events.Open k)
      list,
)
bytes_within n (events.Relay k relay ∷ list) = omega (
  arith,
  bytes_within n list,
  sum_by-cons input_length
      (events.Relay k relay) list,
)
bytes_within n (events.In k bytes ∷ list) =
    omega (
      arith,
      in_within (k == n) bytes (bytes_to n list) (sum_by input_length list) (bytes_within n list),
      sum_by-cons input_length (events.In k bytes) list,
    )
bytes_within n (events.Turn k budget ∷ list) = omega (
  arith,
  bytes_within n list,
  sum_by-cons input_length
      (events.Turn k budget) list,
)
bytes_within n (events.Break k ∷ list) =
    omega (
      arith,
      none_within (k == n) (bytes_to n list) (sum_by input_length list) (bytes_within n list),
      sum_by-cons input_length (events.Break k) list,
    )
bytes_within n (events.End k ∷ list) =
    omega (
      arith,
      none_within (k == n) (bytes_to n list) (sum_by input_length list) (bytes_within n list),
      sum_by-cons input_length (events.End k) list,
    )

-- in a session of either kind nothing happens to a number before it opens
pub session_clean : (kind : ScriptKind) (first later : List Event) (n : ℕ) → IsSession kind (first ++ later)
    → IsClean n first
session_clean kind first later n is none = clean_after kind later n no_numbers first is refl none

-- ---- a session that goes on

module _ (c : Config) (script : List Event) (lives : List Live) (old : Histories) (number at : ℕ) (y : Live)
    (session : Session) (bytes : List ℕ) (run : IsRun c script lives old) (within : at < length lives)
    (is : get_or lives at y ≡ live_of number (Open session) bytes) where
  here : IsFound c (headings_now script run.has) script old at number (Open session) bytes
  here =
      found c (headings_now script run.has) script lives old at y number (Open session) bytes
      (run.known (headings_now script run.has))
      (run.stands [] (headings_now script run.has) (are_now script run.has)) within is

  pub session_me : session.me ≡ number
  session_me = here.kept.me ∙ here.here

  pub session_goes : session.ended ≡ None
  session_goes = here.kept.goes

  -- it may be called, and so many more bytes may come
  pub session_follows : (more : ℕ) → sum_by input_length script + more < 2 ^ 63 → Follows c session old more
  session_follows more few =
      let d = there c (headings_now script run.has) script at in
      let count : length (d.text ++ here.known.rest) ≤ sum_by input_length script =
      subst (λ (l : List ℕ). length l ≤ sum_by input_length script) here.known.begins (bytes_within d.number script) in (
        d.opening,
        d.text,
        d.steps,
        here.kept.histories,
        bytes,
        inl here.kept.stands,
        subst (λ (n : ℕ). OthersCalled here.kept.histories old n) (sym here.kept.me) here.kept.others,
        omega (arith, few, count, length-append d.text here.known.rest),
      )

  -- ---- one that was fed

  -- it stands for its bytes
  pub fed_so : (now : Histories) (next : Session) (text after : List ℕ)
      → Feeds c old now session next text bytes after
      → (o : Opening) × (all : List ℕ) × (steps : List Step) × (sent : List ℕ)
      × StandsFor c next o all steps now sent
  fed_so now next text after feeds =
      let d = there c (headings_now script run.has) script at in
      let fed = feeds d.opening d.text d.steps here.kept.histories bytes (inl here.kept.stands)
      (subst (λ (n : ℕ). OthersCalled here.kept.histories old n) (sym here.kept.me) here.kept.others) in
      (d.opening, d.text ++ text, d.steps ++ fed.more, bytes ++ fed.added, fed.stands)

  -- it was sent more
  pub fed_adds : (now : Histories) (next : Session) (text after : List ℕ)
      → Feeds c old now session next text bytes after → (more : List ℕ) × (after ≡ bytes ++ more)
  fed_adds now next text after feeds =
      let d = there c (headings_now script run.has) script at in
      let fed = feeds d.opening d.text d.steps here.kept.histories bytes (inl here.kept.stands)
      (subst (λ (n : ℕ). OthersCalled here.kept.histories old n) (sym here.kept.me) here.kept.others) in
      (fed.added, fed.out)

  pub turned_adds : (now : Histories) (next : Session) (budget : ℕ) (after : List ℕ) (rover : Bool)
      → is_rover session.stage ≡ rover → TakesTurn c old now session next budget bytes after
      → (more : List ℕ) × (after ≡ bytes ++ more)
  turned_adds now next budget after true rover turns =
      let d = there c (headings_now script run.has) script at in
      let turned = turns.0 rover d.opening d.text d.steps here.kept.histories bytes (inl here.kept.stands)
      (subst (λ (n : ℕ). OthersCalled here.kept.histories old n) (sym here.kept.me) here.kept.others) in
      (turned.added, turned.out)
  turned_adds now next budget after false apart turns = ([], (turns.1 apart).2 ∙ sym (append-nil bytes))
