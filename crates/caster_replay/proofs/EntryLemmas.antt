-- The list of a run's connections: where a number stands in it, and what becomes of one of them.
use Rattle.std.proofs.Common.{◌≡◌, ◌&&◌, ◌∙◌, ◌<◌, ◌≤◌, ◌++◌, ◌+◌, ◌^◌, ℕ, zero, suc, Bool, true, false, List, [], ◌∷◌, length, get_or, set, refl, sym, ap, subst, arith}
use Rattle.std.specs.Prelude.{nat_lt, insert, slice_index_or, ◌↔◌, IsTrue}
use Rattle.std.specs.List.{sum_by}
use Rattle.std.proofs.lemmas.Bool.{and_parts, leb-true}
use Rattle.std.proofs.lemmas.List.{length-map, map-set}
use Rattle.std.proofs.lemmas.List.Edits.{get_or-insert_at}
use Rattle.std.proofs.lemmas.List.Sums.{sum_by-append, sum_by-cons}
use Rattle.session_script.specs.declared.Event.{Event}
use Rattle.session_script.specs.declared.Event.TheVariants as events
use Rattle.session_script.specs.declared.ScriptKind.{ScriptKind}
use Rattle.session_script.specs.declared.ScriptKind.TheVariants.{Bare, Replay}
use Rattle.session_script.specs.Line.{is_event}
use Rattle.session_script.specs.Numbers.{Numbers, no_numbers, may_open}
use Rattle.session_script.specs.Script.{input_length, is_session_after, may_follow}
use Rattle.session_script.specs.Script as scripts
use Rattle.cast_config.specs.declared.config.Config.{Config}
use Rattle.session_model.specs.declared.ending.Ending.TheVariants as endings
use Rattle.session_model.specs.declared.ending.Last.{Last}
use Rattle.session_model.specs.declared.ending.Last.TheVariants as lasts
use Rattle.session_model.specs.declared.report.Receipt.{Receipt}
use Rattle.session_model.specs.Judged.{Opening, sends_head, relays, bare_source, bare_rover}
use Rattle.session_model.specs.Owed.{ends}
use Rattle.caster_replay.specs.declared.run_connection.RunConnection.{RunConnection}
use Rattle.caster_replay.specs.declared.run_connection.State.TheVariants.{Closed}
use Rattle.caster_replay.specs.Caster.{DesksValue}
use Rattle.caster_replay.specs.Lives.{Live, live_of, live_in, lives_in, place_of}
use Rattle.session_model.specs.Run.{Histories}
use Rattle.caster_replay.specs.RunConnections.{HasNumberAt, NamesRelay, ClosedAt, IsClosedAt}
use Rattle.caster_replay.specs.Scripts.{IsKindFor, IsScriptFor, Begins, Ends, Plays}
use Rattle.caster_replay.proofs.WorldKnownLemmas.{IsClean}
use Rattle.caster_replay.proofs.WorldRunnerLemmas.{IsAbout, IsAbsent, about_break, about_end}
use Rattle.caster_replay.proofs.WorldReportLemmas.{IsOpening, opening_head, opening_relay, opening_source, opening_rover}
use Rattle.caster_replay.proofs.WorldSessionLemmas.{session_clean}

-- ---- what stands at a place

pub live_at : (entries : List RunConnection) (place : ℕ) (d : RunConnection)
    → get_or (lives_in entries) place (live_in d) ≡ live_in (slice_index_or entries place d)
live_at [] place d = refl
live_at (entry ∷ entries) zero d = refl
live_at (entry ∷ entries) (suc place) d = live_at entries place d

pub within_lives : (entries : List RunConnection) (place : ℕ) → place < length entries → place < length (lives_in entries)
within_lives entries place within = omega (arith, within, length-map entries live_in)

-- the connection that was found there
pub here_at : (entries : List RunConnection) (place number : ℕ) (entry : RunConnection) → HasNumberAt entries place number
    → entry ≡ slice_index_or entries place entry
    → get_or (lives_in entries) place (live_in entry) ≡ live_of number entry.state entry.bytes.items
here_at entries place number entry there is =
    live_at entries place entry ∙ ap live_in (sym is)
    ∙ ap (λ (n : ℕ). live_of n entry.state entry.bytes.items) (ap (λ (e : RunConnection). e.number) is ∙ there.1 entry)

-- ---- and where it does not

abbrev pub no_receipt : Receipt
no_receipt = record {
  ending = endings.Memory;
  segments = [];
  sent = 0;
  overrun = 0;
  junk = 0;
  entered = false;
  settled = false;
}

abbrev pub no_live : Live
no_live = live_of 0 (Closed no_receipt) []

pub number_at : (entries : List RunConnection) (place : ℕ) (y : Live) (d : RunConnection) → place < length entries
    → (slice_index_or entries place d).number ≡ (get_or (lives_in entries) place y).number
number_at [] place y d within = absurd (omega (arith, within))
number_at (entry ∷ entries) zero y d within = refl
number_at (entry ∷ entries) (suc place) y d within = number_at entries place y d (omega (arith, within))

pub absent_at : (entries : List RunConnection) (place number : ℕ) → place ≡ place_of number (lives_in entries)
    → (HasNumberAt entries place number → ⊥) → IsAbsent number (lives_in entries) no_live
absent_at entries place number is not within here =
    let inside : place < length entries = omega (arith, is, within, length-map entries live_in) in
    not (
      inside,
      λ d. number_at entries place no_live d inside
          ∙ ap (λ (n : ℕ). (get_or (lives_in entries) n no_live).number) is ∙ here,
    )

-- ---- from the answers of the program

pub placed_at : (slice entries : List RunConnection) (place number : ℕ) → slice ≡ entries
    → place ≡ place_of number (lives_in slice) → place ≡ place_of number (lives_in entries)
placed_at slice entries place number same is = is ∙ ap (λ (l : List RunConnection). place_of number (lives_in l)) same

pub found_at : (slice entries : List RunConnection) (place number : ℕ) (answer : Bool) → slice ≡ entries
    → (IsTrue answer ↔ HasNumberAt slice place number) → answer ≡ true → HasNumberAt entries place number
found_at slice entries place number answer same test holds =
    subst (λ (l : List RunConnection). HasNumberAt l place number) same (test.0 holds)

pub missing_at : (slice entries : List RunConnection) (place number : ℕ) (answer : Bool) → slice ≡ entries
    → (IsTrue answer ↔ HasNumberAt slice place number) → answer ≡ false → HasNumberAt entries place number → ⊥
missing_at slice entries place number answer same test fails there =
    let holds : answer ≡ true = test.1 (subst (λ (l : List RunConnection). HasNumberAt l place number) (sym same) there) in
    absurd cc

-- ---- another in its place

get_or_within : (entries : List RunConnection) (place : ℕ) (d e : RunConnection) → place < length entries
    → get_or entries place d ≡ get_or entries place e
get_or_within [] place d e within = absurd (omega (arith, within))
get_or_within (first ∷ entries) zero d e within = refl
get_or_within (first ∷ entries) (suc place) d e within = get_or_within entries place d e (omega (arith, within))

pub lives_set : (entries : List RunConnection) (place : ℕ) (entry : RunConnection)
    → lives_in (set entries place entry) ≡ set (lives_in entries) place (live_in entry)
lives_set entries place entry = map-set live_in entries place entry

pub lives_insert : (entries : List RunConnection) (place : ℕ) (entry : RunConnection)
    → lives_in (insert entries place entry) ≡ insert (lives_in entries) place (live_in entry)
lives_insert [] zero entry = refl
lives_insert [] (suc place) entry = refl
lives_insert (first ∷ entries) zero entry = refl
lives_insert (first ∷ entries) (suc place) entry =
    ap (λ (l : List Live). live_in first ∷ l) (lives_insert entries place entry)

-- one more, and what stands there then
pub placed_is : (entries placed : List RunConnection) (place : ℕ) (entry found : RunConnection) → place ≤ length entries
    → placed ≡ insert entries place entry → found ≡ get_or placed place found → found ≡ entry
placed_is entries placed place entry found within more is =
    is ∙ ap (λ (l : List RunConnection). get_or l place found) more ∙ get_or-insert_at entries place entry found within

pub set_insert : (entries : List RunConnection) (place : ℕ) (entry next : RunConnection) → place ≤ length entries
    → set (insert entries place entry) place next ≡ insert entries place next
set_insert [] zero entry next within = refl
set_insert [] (suc place) entry next within = absurd (omega (arith, within))
set_insert (first ∷ entries) zero entry next within = refl
set_insert (first ∷ entries) (suc place) entry next within =
    ap (λ (l : List RunConnection). first ∷ l) (set_insert entries place entry next (omega (arith, within)))

-- a connection that was closed in its place
pub closed_put : (c : Config) (old now : Histories) (last : Last) (place : ℕ) (before : List RunConnection)
    (d entry next : RunConnection) → place < length before → entry ≡ get_or before place entry
    → next.number ≡ entry.number → next.bytes.items ≡ entry.bytes.items
    → ClosedAt c old now last entry.state next.state
    → IsClosedAt c old now last place (get_or before place d) before (set before place next)
closed_put c old now last place before d entry next within is number bytes closed =
    subst (λ (e : RunConnection). IsClosedAt c old now last place e before (set before place next))
    (is ∙ get_or_within before place entry d within) (
      next.state,
      closed,
      lives_set before place next
          ∙ ap (set (lives_in before) place)
          (ap (λ (n : ℕ). live_of n next.state next.bytes.items) number ∙ ap (live_of entry.number next.state) bytes),
    )

-- ---- events

pub about_of : (event : Event) (number : ℕ) (last : Last) → Ends event number last → IsAbout event number (ends last)
about_of (events.Open k) number last is = absurd is
about_of (events.Relay k relay) number last is = absurd is
about_of (events.Source k mount) number last is = absurd is
about_of (events.Rover k mount) number last is = absurd is
about_of (events.In k bytes) number last is = absurd is
about_of (events.Turn k budget) number last is = absurd is
about_of (events.Break k) number last is =
    subst (λ (l : Last). IsAbout (events.Break k) number (ends l)) (sym is.1)
    (subst (λ (n : ℕ). IsAbout (events.Break k) n (ends lasts.ReadFault)) is.0 (about_break k))
about_of (events.End k) number last is =
    subst (λ (l : Last). IsAbout (events.End k) number (ends l)) (sym is.1)
    (subst (λ (n : ℕ). IsAbout (events.End k) n (ends lasts.End)) is.0 (about_end k))

pub opening_by : (event : Event) (number : ℕ) (o : Opening) → Begins event number o → IsOpening event number o
opening_by (events.Open k) number o is =
    subst (λ (x : Opening). IsOpening (events.Open k) number x) (sym is.1)
    (subst (λ (n : ℕ). IsOpening (events.Open k) n sends_head) is.0 (opening_head k))
opening_by (events.Relay k relay) number o is =
    subst (λ (x : Opening). IsOpening (events.Relay k relay) number x) (sym is.1)
    (subst (λ (n : ℕ). IsOpening (events.Relay k relay) n (relays relay)) is.0 (opening_relay k relay))
opening_by (events.Source k mount) number o is =
    subst (λ (x : Opening). IsOpening (events.Source k mount) number x) (sym is.1)
    (subst (λ (n : ℕ). IsOpening (events.Source k mount) n (bare_source mount)) is.0 (opening_source k mount))
opening_by (events.Rover k mount) number o is =
    subst (λ (x : Opening). IsOpening (events.Rover k mount) number x) (sym is.1)
    (subst (λ (n : ℕ). IsOpening (events.Rover k mount) n (bare_rover mount)) is.0 (opening_rover k mount))
opening_by (events.In k bytes) number o is = absurd is
opening_by (events.Turn k budget) number o is = absurd is
opening_by (events.Break k) number o is = absurd is
opening_by (events.End k) number o is = absurd is

-- ---- room

module _ (c : Config) (script : List Event) (event : Event) (entries : List RunConnection) (desks : DesksValue)
    (plays : Plays c script event entries desks) where
  pub room_for : sum_by input_length script + input_length event < 2 ^ 63
  room_for =
      omega (
        arith,
        plays.script_is.1,
        sum_by-append input_length script (event ∷ plays.later),
        sum_by-cons input_length event plays.later,
      )

  pub room_so_far : sum_by input_length script < 2 ^ 63
  room_so_far = omega (arith, room_for)

  pub is_clean : (number : ℕ) → IsClean number script
  is_clean number =
      session_clean plays.script_is.0.0 script (event ∷ plays.later) number plays.script_is.0.2

-- ---- relays

-- each event of a session is of its kind, and may come where it stands
event_fits : (kind : ScriptKind) (numbers : Numbers) (first : List Event) (event : Event) (later : List Event)
    → is_session_after kind numbers (first ++ event ∷ later) ≡ true
    → (is_event kind event ≡ true) × ((between : Numbers) × (may_follow kind between event ≡ true))
event_fits kind numbers [] event later is =
    let behind : Bool = is_session_after kind (scripts.after_event numbers event) later in
    let both = and_parts (is_event kind event && may_follow kind numbers event) behind is in
    let own = and_parts (is_event kind event) (may_follow kind numbers event) both.0 in
    (own.0, (numbers, own.1))
event_fits kind numbers (e ∷ first) event later is =
    let behind : Bool = is_session_after kind (scripts.after_event numbers e) (first ++ event ∷ later) in
    event_fits kind (scripts.after_event numbers e) first event later
    (and_parts (is_event kind e && may_follow kind numbers e) behind is).1

relay_within : (c : Config) (kind : ScriptKind) (k relay : ℕ) (between : Numbers) → IsKindFor c kind
    → is_event kind (events.Relay k relay) ≡ true → may_follow kind between (events.Relay k relay) ≡ true
    → relay < length c.relay
relay_within c Bare k relay between for is follows = absurd cc
relay_within c (Replay count) k relay between for is follows =
    omega (arith, for, leb-true (suc relay) count (and_parts (may_open between k) (nat_lt relay count) follows).1)

-- a relay that opens is one of the configuration's
pub names_relay : (c : Config) (script : List Event) (event : Event) (later : List Event) (number : ℕ) (o : Opening)
    → IsScriptFor c (script ++ event ∷ later) → Begins event number o → NamesRelay c o
names_relay c script (events.Open k) later number o is begins = subst (NamesRelay c) (sym begins.1) tt
names_relay c script (events.Source k mount) later number o is begins = subst (NamesRelay c) (sym begins.1) tt
names_relay c script (events.Rover k mount) later number o is begins = subst (NamesRelay c) (sym begins.1) tt
names_relay c script (events.Relay k relay) later number o is begins =
    let fits = event_fits is.0.0 no_numbers script (events.Relay k relay) later is.0.2 in
    subst (NamesRelay c) (sym begins.1) (relay_within c is.0.0 k relay fits.1.0 is.0.1 fits.0 fits.1.1)
names_relay c script (events.In k bytes) later number o is begins = absurd begins
names_relay c script (events.Turn k budget) later number o is begins = absurd begins
names_relay c script (events.Break k) later number o is begins = absurd begins
names_relay c script (events.End k) later number o is begins = absurd begins
