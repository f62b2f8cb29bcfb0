-- What a script says of each connection of its run: how it opened, and that its text is all its
-- bytes, unless it ended by itself.
use Rattle.std.proofs.Common.{◌≡◌, ◌∙◌, ◌⊎◌, ◌++◌, ℕ, Bool, true, false, List, [], ◌∷◌, map, All, Option, None, Some, inl, inr, refl, sym, ap, subst, eq-eqb, append_assoc}
use Rattle.std.specs.Prelude.{◌&&◌, is_none}
use Rattle.std.proofs.lemmas.Bool.{cases_eq}
use Rattle.std.proofs.lemmas.List.{append-nil}
use Rattle.std.proofs.lemmas.List.Elements.{All-head, All-tail, All-cons, All-nil}
use Rattle.session_script.specs.declared.Event.{Event}
use Rattle.session_script.specs.declared.Event.TheVariants as events
use Rattle.session_script.specs.declared.ScriptKind.{ScriptKind}
use Rattle.session_script.specs.Script.{IsSession}
use Rattle.cast_config.specs.declared.config.Config.{Config}
use Rattle.session_model.specs.declared.ending.Ending.{Ending}
use Rattle.session_model.specs.declared.ending.Last.{Last}
use Rattle.session_model.specs.declared.ending.Last.TheVariants as lasts
use Rattle.session_model.specs.Headings.{Heading}
use Rattle.session_model.specs.Judged.{Opening, sends_head, relays, bare_source, bare_rover, Judged}
use Rattle.session_model.specs.Owed.{came_by, came_to, closing, Happening, arrives, takes_turn, ends, owed}
use Rattle.session_model.specs.Endings.{ended_by, goes_on}
use Rattle.session_model.specs.Reports.{opened_as, bytes_to}
use Rattle.session_model.specs.Run.{Histories, Connected, World, Moved, made, judged_of, makes, closed_if, with_text, moved, moved_if, is_concerned, happens_in, happens, is_opened, opened_if, fresh, opens, after_event, after_events, closes, world}
use Rattle.caster_replay.specs.Runs.{IsKnown, AreKnown}
use Rattle.caster_replay.proofs.WorldHeadingLemmas.{bytes-append, bytes_stay, unless_cut}
use Rattle.caster_replay.proofs.WorldClosedLemmas.{received_closed}
use Rattle.caster_replay.proofs.WorldListLemmas.{moved_by, apart_moved}
use Rattle.caster_replay.proofs.WorldKnownLemmas.{IsClean, Tells, Starts, bytes_same, opened_same, known_happens, known_opened, tells_in, tells_turn, tells_break, tells_end, starts_open, starts_relay, starts_source, starts_rover, known_placed}
use Rattle.caster_replay.proofs.WorldRunnerLemmas.{after_one}
use Rattle.caster_replay.proofs.WorldSessionLemmas.{session_clean}
use Rattle.run_promise.proofs.MadeLemmas.{made_is}

-- ---- all its bytes

module _ (c : Config) (headings : ℕ → Heading) where
  -- it ended by itself
  abbrev pub HasEnded : Connected → Type 0
  HasEnded d = is_none (ended_by (came_to (judged_of c (headings d.number) d) d.steps)) ≡ false

  -- its text is all that these events bring on it, or it ended by itself
  abbrev pub IsWhole : List Event → Connected → Type 0
  IsWhole list d = (bytes_to d.number list ≡ d.text) ⊎ HasEnded d

  -- an event that brings it no bytes
  whole_same : (list : List Event) (event : Event) (d : Connected) → bytes_to d.number (event ∷ []) ≡ []
      → IsWhole list d → IsWhole (list ++ event ∷ []) d
  whole_same list event d none (inl all) = inl (bytes_same d.number list event none ∙ all)
  whole_same list event d none (inr ended) = inr ended

  -- one that does not go on was closed, and no bytes count since, or it ended by itself
  over_if : (closed : Option Last) (ended : Bool) → (is_none closed && ended) ≡ false
      → (is_none closed ≡ false) ⊎ (ended ≡ false)
  over_if None ended over = inr over
  over_if (Some last) ended over = inl refl

  whole_over : (list : List Event) (event : Event) (d : Connected)
      → goes_on (judged_of c (headings d.number) d) d.steps d.closed ≡ false → IsKnown c headings list d
      → IsWhole list d → IsWhole (list ++ event ∷ []) d
  whole_over list event d over known (inr ended) = inr ended
  whole_over list event d over known (inl all) =
      elim (over_if d.closed (is_none (ended_by (came_to (judged_of c (headings d.number) d) d.steps))) over) [
        | inl closed ↦ inl (bytes_stay d.number list (event ∷ []) (known.closed closed) ∙ all)
        | inr ended ↦ inr ended
      ]

  -- all bytes of one that goes on
  pub bytes_going : (list : List Event) (event : Event) (d : Connected)
      → goes_on (judged_of c (headings d.number) d) d.steps d.closed ≡ true → IsKnown c headings list d
      → bytes_to d.number (list ++ event ∷ []) ≡ d.text ++ bytes_to d.number (event ∷ [])
  bytes_going list event d goes known =
      let now = known.going goes in
      bytes-append d.number list (event ∷ [])
      ∙ ap (λ (b : Bool). bytes_to d.number list ++ unless_cut b (bytes_to d.number (event ∷ []))) now.1
      ∙ ap (λ (l : List ℕ). l ++ bytes_to d.number (event ∷ []))
      (known.begins ∙ ap (λ (l : List ℕ). d.text ++ l) now.0 ∙ append-nil d.text)

  whole_if : (list : List Event) (end : Option Ending) (j : Judged) (m : Moved)
      → bytes_to m.connection.number list ≡ m.connection.text → IsWhole list (closed_if end c j m).connection
  whole_if list None j m all = inl all
  whole_if list (Some end) j m all = inl all

  whole_moved : (list : List Event) (event : Event) (what : Happening) (h : Histories) (d : Connected)
      → Tells event d.number what → goes_on (judged_of c (headings d.number) d) d.steps d.closed ≡ true
      → IsKnown c headings list d → IsWhole (list ++ event ∷ []) (moved c (headings d.number) h d what).connection
  whole_moved list event (arrives more) h d tells goes known =
      whole_if (list ++ event ∷ []) _ (judged_of c (headings d.number) (with_text d (d.text ++ more)))
      (makes c h (with_text d (d.text ++ more)) (owed c d.opening (headings d.number) d.text d.steps (arrives more)))
      (bytes_going list event d goes known ∙ ap (λ (l : List ℕ). d.text ++ l) tells.bytes)
  whole_moved list event (takes_turn budget) h d tells goes known =
      inl (bytes_going list event d goes known ∙ ap (λ (l : List ℕ). d.text ++ l) tells.bytes ∙ append-nil d.text)
  whole_moved list event (ends last) h d tells goes known =
      inl (bytes_going list event d goes known ∙ ap (λ (l : List ℕ). d.text ++ l) tells.bytes ∙ append-nil d.text)

  whole_here : (concerned : Bool) (list : List Event) (event : Event) (what : Happening) (h : Histories)
      (d : Connected) → Tells event d.number what
      → goes_on (judged_of c (headings d.number) d) d.steps d.closed ≡ concerned → IsKnown c headings list d
      → IsWhole list d
      → IsWhole (list ++ event ∷ []) (moved_if concerned c (headings d.number) h d what).connection
  whole_here true list event what h d tells goes known whole = whole_moved list event what h d tells goes known
  whole_here false list event what h d tells goes known whole = whole_over list event d goes known whole

  whole_by : (list : List Event) (event : Event) (number : ℕ) (what : Happening) (h : Histories) (d : Connected)
      → Tells event number what → IsKnown c headings list d → IsWhole list d
      → IsWhole (list ++ event ∷ []) (moved_by c headings number what h d).connection
  whole_by list event number what h d tells known whole = elim (cases_eq number d.number) [
    | inr apart ↦
        subst (λ (m : Moved). IsWhole (list ++ event ∷ []) m.connection)
        (sym (apart_moved c headings number what h d (λ e. apart (sym e))))
        (whole_same list event d (tells.others d.number apart).0 whole)
    | inl same ↦
        let goes = goes_on (judged_of c (headings d.number) d) d.steps d.closed in
        subst (λ (b : Bool). IsWhole (list ++ event ∷ []) (moved_if (b && goes) c (headings d.number) h d what).connection)
        (sym (eq-eqb d.number number (sym same)))
        (whole_here goes list event what h d (subst (λ (n : ℕ). Tells event n what) same tells) refl known whole)
  ]

  whole_in : (list : List Event) (event : Event) (number : ℕ) (what : Happening) (h : Histories)
      (ds : List Connected) → Tells event number what → All (IsKnown c headings list) ds → All (IsWhole list) ds
      → All (IsWhole (list ++ event ∷ [])) (happens_in c headings number what h ds).connections
  whole_in list event number what h [] tells known whole = All-nil (IsWhole (list ++ event ∷ []))
  whole_in list event number what h (d ∷ ds) tells known whole =
      let m = moved_by c headings number what h d in
      All-cons (IsWhole (list ++ event ∷ [])) m.connection _
      (whole_by list event number what h d tells (All-head (IsKnown c headings list) d ds known)
      (All-head (IsWhole list) d ds whole))
      (whole_in list event number what m.histories ds tells (All-tail (IsKnown c headings list) d ds known)
      (All-tail (IsWhole list) d ds whole))

  -- ---- one opens

  all_same : (list : List Event) (event : Event) (ds : List Connected)
      → ((n : ℕ) → bytes_to n (event ∷ []) ≡ []) → All (IsWhole list) ds → All (IsWhole (list ++ event ∷ [])) ds
  all_same list event [] none whole = All-nil (IsWhole (list ++ event ∷ []))
  all_same list event (d ∷ ds) none whole =
      All-cons (IsWhole (list ++ event ∷ [])) d ds
      (whole_same list event d (none d.number) (All-head (IsWhole list) d ds whole))
      (all_same list event ds none (All-tail (IsWhole list) d ds whole))

  whole_opened : (known : Bool) (list : List Event) (event : Event) (number : ℕ) (o : Opening) (w : World)
      → Starts event number o → (known ≡ false → bytes_to number list ≡ []) → All (IsWhole list) w.connections
      → All (IsWhole (list ++ event ∷ []))
      (opened_if known w (moved c (headings number) w.histories (fresh number o) (arrives []))).connections
  whole_opened true list event number o w starts none whole =
      all_same list event w.connections (λ n. (starts.silent n).0) whole
  whole_opened false list event number o w starts none whole =
      known_placed (IsWhole (list ++ event ∷ []))
      (moved c (headings number) w.histories (fresh number o) (arrives [])).connection w.connections
      (whole_if (list ++ event ∷ []) _ (judged_of c (headings number) (with_text (fresh number o) []))
      (makes c w.histories (with_text (fresh number o) []) (owed c o (headings number) [] [] (arrives [])))
      (bytes_same number list event (starts.silent number).0 ∙ none refl))
      (all_same list event w.connections (λ n. (starts.silent n).0) whole)

  -- ---- all events

  pub record AreRead (list : List Event) (w : World) : Type 0 where
    pub known : AreKnown c headings list w
    pub whole : All (IsWhole list) w.connections

  read_happens : (list : List Event) (event : Event) (number : ℕ) (what : Happening) (w : World)
      → Tells event number what → AreRead list w
      → AreRead (list ++ event ∷ []) (happens c headings w number what)
  read_happens list event number what w tells are = record {
    known = known_happens c headings list event number what w tells are.known;
    whole = whole_in list event number what w.histories w.connections tells are.known.each are.whole;
  }

  read_opens : (list : List Event) (event : Event) (number : ℕ) (o : Opening) (w : World) → Starts event number o
      → IsClean number list → AreRead list w → AreRead (list ++ event ∷ []) (opens c headings w number o)
  read_opens list event number o w starts clean are = record {
    known = known_opened (is_opened number w.connections) c headings list event number o w refl starts clean are.known;
    whole = whole_opened (is_opened number w.connections) list event number o w starts
        (λ none. (clean (are.known.none number none)).0) are.whole;
  }

  read_event : (list : List Event) (event : Event) (w : World) → ((n : ℕ) → IsClean n list) → AreRead list w
      → AreRead (list ++ event ∷ []) (after_event c headings w event)
  read_event list (events.Source number mount) w clean are =
      read_opens list (events.Source number mount) number (bare_source mount) w (starts_source number mount)
      (clean number) are
  read_event list (events.Rover number mount) w clean are =
      read_opens list (events.Rover number mount) number (bare_rover mount) w (starts_rover number mount)
      (clean number) are
  read_event list (events.Open number) w clean are =
      read_opens list (events.Open number) number sends_head w (starts_open number) (clean number) are
  read_event list (events.Relay number relay) w clean are =
      read_opens list (events.Relay number relay) number (relays relay) w (starts_relay number relay) (clean number) are
  read_event list (events.In number bytes) w clean are =
      read_happens list (events.In number bytes) number (arrives bytes) w (tells_in number bytes) are
  read_event list (events.Turn number budget) w clean are =
      read_happens list (events.Turn number budget) number (takes_turn budget) w (tells_turn number budget) are
  read_event list (events.Break number) w clean are =
      read_happens list (events.Break number) number (ends lasts.ReadFault) w (tells_break number) are
  read_event list (events.End number) w clean are =
      read_happens list (events.End number) number (ends lasts.End) w (tells_end number) are

  read_more : (kind : ScriptKind) (first later : List Event) → IsSession kind (first ++ later)
      → AreRead first (after_events c headings first)
      → AreRead (first ++ later) (after_events c headings (first ++ later))
  read_more kind first [] is are =
      subst (λ (l : List Event). AreRead l (after_events c headings l)) (sym (append-nil first)) are
  read_more kind first (event ∷ later) is are =
      let split : (first ++ event ∷ []) ++ later ≡ first ++ event ∷ later = append_assoc first (event ∷ []) later in
      subst (λ (l : List Event). AreRead l (after_events c headings l)) split
      (read_more kind (first ++ event ∷ []) later (subst (IsSession kind) (sym split) is)
      (subst (AreRead (first ++ event ∷ [])) (sym (after_one c headings first event))
      (read_event first event (after_events c headings first)
      (λ n. session_clean kind first (event ∷ later) n is) are)))

  pub events_read : (kind : ScriptKind) (script : List Event) → IsSession kind script
      → AreRead script (after_events c headings script)
  events_read kind script is = read_more kind [] script is (record {
    known = record { each = All-nil (IsKnown c headings []); none = λ n none. refl };
    whole = All-nil (IsWhole []);
  })

  -- ---- the whole run

  -- how it opened, and which of its bytes came when it was over
  pub record IsRead (script : List Event) (d : Connected) : Type 0 where
    pub opened : opened_as d.number script ≡ Some d.opening
    pub rest : List ℕ
    pub begins : bytes_to d.number script ≡ d.text ++ rest
    pub whole : (rest ≡ []) ⊎ HasEnded d

  read_one : (script : List Event) (d : Connected) → IsKnown c headings script d → IsWhole script d → IsRead script d
  read_one script d known (inl all) =
      record { opened = known.opened; rest = []; begins = all ∙ sym (append-nil d.text); whole = inl refl }
  read_one script d known (inr ended) =
      record { opened = known.opened; rest = known.rest; begins = known.begins; whole = inr ended }

  read_each : (script : List Event) (ds : List Connected) → All (IsKnown c headings script) ds
      → All (IsWhole script) ds → All (IsRead script) ds
  read_each script [] known whole = All-nil (IsRead script)
  read_each script (d ∷ ds) known whole =
      All-cons (IsRead script) d ds
      (read_one script d (All-head (IsKnown c headings script) d ds known) (All-head (IsWhole script) d ds whole))
      (read_each script ds (All-tail (IsKnown c headings script) d ds known) (All-tail (IsWhole script) d ds whole))

  -- what closes a connection changes none of it
  ended_still : (h : Histories) (d : Connected) (last : Last) → HasEnded d
      → HasEnded (moved c (headings d.number) h d (ends last)).connection
  ended_still h d last ended =
      let j = judged_of c (headings d.number) d in
      let plan = closing j d.steps in
      ap (λ (r : _). is_none (ended_by (came_by j r)))
      (received_closed j d.steps (made c d.number h plan) (made_is c d.number h plan))
      ∙ ended

  close_read : (script : List Event) (concerned : Bool) (h : Histories) (d : Connected) (last : Last)
      → IsRead script d → IsRead script (moved_if concerned c (headings d.number) h d (ends last)).connection
  close_read script false h d last is = is
  close_read script true h d last is = record {
    opened = is.opened;
    rest = is.rest;
    begins = is.begins;
    whole = elim is.whole [
      | inl none ↦ inl none
      | inr ended ↦ inr (ended_still h d last ended)
    ];
  }

  close_in : (script : List Event) (number : ℕ) (last : Last) (h : Histories) (ds : List Connected)
      → All (IsRead script) ds → All (IsRead script) (happens_in c headings number (ends last) h ds).connections
  close_in script number last h [] all = All-nil (IsRead script)
  close_in script number last h (d ∷ ds) all =
      let m = moved_by c headings number (ends last) h d in
      All-cons (IsRead script) m.connection _
      (close_read script (is_concerned c (headings d.number) number d) h d last (All-head (IsRead script) d ds all))
      (close_in script number last m.histories ds (All-tail (IsRead script) d ds all))

  -- of every connection, and each number that opened is a connection's
  pub record AreAllRead (script : List Event) (w : World) : Type 0 where
    pub each : All (IsRead script) w.connections
    pub none : (n : ℕ) → is_opened n w.connections ≡ false → opened_as n script ≡ None

  closes_read : (script : List Event) (w : World) (numbers : List ℕ) → AreAllRead script w
      → AreAllRead script (closes c headings w numbers)
  closes_read script w [] are = are
  closes_read script w (number ∷ more) are =
      closes_read script (happens c headings w number (ends lasts.End)) more (record {
        each = close_in script number lasts.End w.histories w.connections are.each;
        none = λ n none. are.none n
            (sym (opened_same c headings n number (ends lasts.End) w.histories w.connections) ∙ none);
      })

  pub world_read : (kind : ScriptKind) (script : List Event) → IsSession kind script
      → AreAllRead script (world c headings script)
  world_read kind script is =
      let w = after_events c headings script in
      let are = events_read kind script is in
      closes_read script w (map (λ (d : Connected). d.number) w.connections)
      (record { each = read_each script w.connections are.known.each are.whole; none = are.known.none })
