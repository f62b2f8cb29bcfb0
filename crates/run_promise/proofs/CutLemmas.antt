-- A connection that the events so far have closed calls nothing later.
use Rattle.std.proofs.Common.{◌≡◌, ◌∙◌, ◌++◌, ℕ, Bool, true, false, List, [], ◌∷◌, map, All, inl, inr, refl, sym, ap, subst, append_assoc}
use Rattle.std.specs.Prelude.{◌==◌, ◌&&◌}
use Rattle.std.proofs.lemmas.Bool.{cases_eq, false≢true, ne_eqb, and_from, and_parts}
use Rattle.std.proofs.lemmas.List.{append-nil}
use Rattle.std.proofs.lemmas.List.Elements.{All-head, All-tail, All-cons, All-nil}
use Rattle.turn_log.specs.History.{History, own}
use Rattle.turn_log.proofs.HistoryLaws.{own-append, own_none}
use Rattle.mount_ring.specs.declared.call.RingCall.{RingCall}
use Rattle.session_script.specs.declared.Event.{Event}
use Rattle.session_script.specs.declared.Event.TheVariants as events
use Rattle.session_script.specs.declared.ScriptKind.{ScriptKind}
use Rattle.session_script.specs.Numbers.{Numbers, no_numbers}
use Rattle.session_script.specs.Line.{is_event}
use Rattle.session_script.specs.Script.{may_follow, is_session_after, IsSession}
use Rattle.session_script.specs.Script as scripts
use Rattle.session_calls.specs.Rings.{history_at, WentOn}
use Rattle.cast_config.specs.declared.config.Config.{Config}
use Rattle.cast_config.specs.Kept.{KeepsRules}
use Rattle.session_model.specs.declared.ending.Last.TheVariants as lasts
use Rattle.session_model.specs.Headings.{Heading}
use Rattle.session_model.specs.Judged.{Opening, sends_head, relays, bare_source, bare_rover}
use Rattle.session_model.specs.Owed.{Happening, arrives, takes_turn, ends}
use Rattle.session_model.specs.Endings.{goes_on}
use Rattle.session_model.specs.Run.{Histories, Connected, World, judged_of, moved_if, is_concerned, happens_in, happens, is_opened, opens, after_event, after_events, closes, world}
use Rattle.caster_replay.specs.Runs.{is_cut, IsKnown, AreKnown}
use Rattle.caster_replay.proofs.WorldHeadingLemmas.{cut_stays}
use Rattle.caster_replay.proofs.WorldKnownLemmas.{IsClean}
use Rattle.caster_replay.proofs.WorldRunnerLemmas.{after_one}
use Rattle.caster_replay.proofs.WorldSessionLemmas.{session_clean}
use Rattle.run_promise.proofs.ReadLemmas.{events_read}
use Rattle.run_promise.proofs.RunLemmas.{IsRunning, IsOver, happens_runs, happens_others, opens_others, events_runs}

-- the beginning of a session is one
pub first_session : (kind : ScriptKind) (numbers : Numbers) (first later : List Event)
    → is_session_after kind numbers (first ++ later) ≡ true → is_session_after kind numbers first ≡ true
first_session kind numbers [] later is = refl
first_session kind numbers (event ∷ first) later is =
    let fits = is_event kind event && may_follow kind numbers event in
    let next = scripts.after_event numbers event in
    let both = and_parts fits (is_session_after kind next (first ++ later)) is in
    and_from fits (is_session_after kind next first) both.0 (first_session kind next first later both.1)

-- ---- of one number

module _ (c : Config) (cap : ℕ) (headings : ℕ → Heading) (n : ℕ) where
  -- its calls are what they were
  abbrev pub SameCalls : List (History RingCall) → List (History RingCall) → Type 0
  SameCalls old now = (mount : ℕ) → own n (history_at now mount) ≡ own n (history_at old mount)

  from_went : (old now : List (History RingCall)) → WentOn old now n → SameCalls old now
  from_went old now went = λ mount.
      let on = went.rings mount in
      ap (own n) on.1 ∙ own-append n (history_at old mount) on.0
      ∙ ap (λ (l : List RingCall). own n (history_at old mount) ++ l) on.2
      ∙ append-nil (own n (history_at old mount))

  -- if it is this one, it is over
  abbrev pub IsGone : Connected → Type 0
  IsGone d = d.number ≡ n → IsOver c headings d

  gone_none : (d : Connected) (goes : Bool) → goes_on (judged_of c (headings d.number) d) d.steps d.closed ≡ goes
      → IsGone d → is_concerned c (headings d.number) n d ≡ false
  gone_none d goes is gone = elim (cases_eq d.number n) [
    | inl same ↦
        ap (λ (b : Bool). (d.number == n) && b) (gone same) ∙ never (d.number == n)
    | inr apart ↦
        ap (λ (b : Bool). b && goes_on (judged_of c (headings d.number) d) d.steps d.closed) (ne_eqb d.number n apart)
  ]
    where
      never : (b : Bool) → (b && false) ≡ false
      never true = refl
      never false = refl

  -- nothing happens to it
  gone_same : (what : Happening) (h : Histories) (ds : List Connected) → All IsGone ds
      → (happens_in c headings n what h ds).histories ≡ h
  gone_same what h [] gone = refl
  gone_same what h (d ∷ ds) gone =
      ap (λ (b : Bool). (happens_in c headings n what
      (moved_if b c (headings d.number) h d what).histories ds).histories)
      (gone_none d _ refl (All-head IsGone d ds gone))
      ∙ gone_same what h ds (All-tail IsGone d ds gone)

  happens_same : (w : World) (number : ℕ) (what : Happening) → KeepsRules cap c → IsRunning c headings w
      → All IsGone w.connections → SameCalls w.histories.rings (happens c headings w number what).histories.rings
  happens_same w number what kept run gone = elim (cases_eq number n) [
    | inl same ↦
        subst (λ (k : ℕ). SameCalls w.histories.rings (happens c headings w k what).histories.rings) (sym same)
        (λ mount. ap (λ (h : Histories). own n (history_at h.rings mount))
        (gone_same what w.histories w.connections gone))
    | inr apart ↦
        from_went w.histories.rings (happens c headings w number what).histories.rings
        (happens_others c cap headings w number what kept run n (λ e. apart (sym e)))
  ]

  opens_same : (w : World) (number : ℕ) (o : Opening) → KeepsRules cap c → IsRunning c headings w
      → is_opened n w.connections ≡ true
      → SameCalls w.histories.rings (opens c headings w number o).histories.rings
  opens_same w number o kept run there =
      from_went w.histories.rings (opens c headings w number o).histories.rings
      (opens_others c cap headings w number o kept run n
      (λ none same. false≢true (sym none ∙ ap (λ (k : ℕ). is_opened k w.connections) (sym same) ∙ there)))

  event_same : (w : World) (event : Event) → KeepsRules cap c → IsRunning c headings w → All IsGone w.connections
      → is_opened n w.connections ≡ true
      → SameCalls w.histories.rings (after_event c headings w event).histories.rings
  event_same w (events.Source number mount) kept run gone there =
      opens_same w number (bare_source mount) kept run there
  event_same w (events.Rover number mount) kept run gone there =
      opens_same w number (bare_rover mount) kept run there
  event_same w (events.Open number) kept run gone there = opens_same w number sends_head kept run there
  event_same w (events.Relay number relay) kept run gone there = opens_same w number (relays relay) kept run there
  event_same w (events.In number bytes) kept run gone there = happens_same w number (arrives bytes) kept run gone
  event_same w (events.Turn number budget) kept run gone there =
      happens_same w number (takes_turn budget) kept run gone
  event_same w (events.Break number) kept run gone there =
      happens_same w number (ends lasts.ReadFault) kept run gone
  event_same w (events.End number) kept run gone there = happens_same w number (ends lasts.End) kept run gone

  -- ---- one that these events closed

  known_gone : (list : List Event) (ds : List Connected) → is_cut n list ≡ true → All (IsKnown c headings list) ds
      → All IsGone ds
  known_gone list [] cut known = All-nil IsGone
  known_gone list (d ∷ ds) cut known =
      All-cons IsGone d ds
      (λ same. over_by (goes_on (judged_of c (headings d.number) d) d.steps d.closed) refl
      (λ goes. false≢true (sym ((All-head (IsKnown c headings list) d ds known).going goes).1
      ∙ ap (λ (k : ℕ). is_cut k list) same ∙ cut)))
      (known_gone list ds cut (All-tail (IsKnown c headings list) d ds known))
    where
      over_by : (goes : Bool) {is : Bool} → is ≡ goes → (is ≡ true → ⊥) → is ≡ false
      over_by true is never = absurd (never is)
      over_by false is never = is

  known_there : (list : List Event) (w : World) (there : Bool) → is_opened n w.connections ≡ there
      → is_cut n list ≡ true → IsClean n list → AreKnown c headings list w → there ≡ true
  known_there list w true is cut clean known = refl
  known_there list w false is cut clean known =
      absurd (false≢true (sym (clean (known.none n is)).1 ∙ cut))

  pub later_same : (kind : ScriptKind) (first later : List Event) → KeepsRules cap c
      → IsSession kind (first ++ later) → is_cut n first ≡ true
      → SameCalls (after_events c headings first).histories.rings
      (after_events c headings (first ++ later)).histories.rings
  later_same kind first [] kept session cut = λ mount.
      ap (λ (l : List Event). own n (history_at (after_events c headings l).histories.rings mount)) (append-nil first)
  later_same kind first (event ∷ later) kept session cut = λ mount.
      let w = after_events c headings first in
      let known = (events_read c headings kind first (first_session kind no_numbers first (event ∷ later) session)).known in
      let split : (first ++ event ∷ []) ++ later ≡ first ++ event ∷ later = append_assoc first (event ∷ []) later in
      let there = known_there first w (is_opened n w.connections) refl cut
      (session_clean kind first (event ∷ later) n session) known in
      ap (λ (l : List Event). own n (history_at (after_events c headings l).histories.rings mount)) (sym split)
      ∙ later_same kind (first ++ event ∷ []) later kept (subst (IsSession kind) (sym split) session)
      (cut_stays n first (event ∷ []) cut) mount
      ∙ ap (λ (x : World). own n (history_at x.histories.rings mount)) (after_one c headings first event)
      ∙ event_same w event kept (events_runs c cap headings first kept) (known_gone first w.connections cut known.each)
      there mount

  -- ---- and what closes the others

  gone_after : (concerned : Bool) (number : ℕ) (h : Histories) (d : Connected) → IsGone d
      → IsGone (moved_if concerned c (headings d.number) h d (ends lasts.End)).connection
  gone_after false number h d gone = gone
  gone_after true number h d gone = λ same. refl

  all_gone : (number : ℕ) (h : Histories) (ds : List Connected) → All IsGone ds
      → All IsGone (happens_in c headings number (ends lasts.End) h ds).connections
  all_gone number h [] gone = All-nil IsGone
  all_gone number h (d ∷ ds) gone =
      let concerned : Bool = is_concerned c (headings d.number) number d in
      let m = moved_if concerned c (headings d.number) h d (ends lasts.End) in
      All-cons IsGone m.connection _ (gone_after concerned number h d (All-head IsGone d ds gone))
      (all_gone number m.histories ds (All-tail IsGone d ds gone))

  closes_same : (w : World) (numbers : List ℕ) → KeepsRules cap c → IsRunning c headings w → All IsGone w.connections
      → SameCalls w.histories.rings (closes c headings w numbers).histories.rings
  closes_same w [] kept run gone = λ mount. refl
  closes_same w (number ∷ more) kept run gone = λ mount.
      let next = happens c headings w number (ends lasts.End) in
      closes_same next more kept (happens_runs c cap headings w number (ends lasts.End) kept run)
      (all_gone number w.histories w.connections gone) mount
      ∙ happens_same w number (ends lasts.End) kept run gone mount

  pub cut_same : (kind : ScriptKind) (first later : List Event) → KeepsRules cap c
      → IsSession kind (first ++ later) → is_cut n first ≡ true
      → SameCalls (after_events c headings first).histories.rings
      (world c headings (first ++ later)).histories.rings
  cut_same kind first later kept session cut = λ mount.
      let late = after_events c headings (first ++ later) in
      let known = (events_read c headings kind (first ++ later) session).known in
      closes_same late (map (λ (d : Connected). d.number) late.connections) kept
      (events_runs c cap headings (first ++ later) kept)
      (known_gone (first ++ later) late.connections (cut_stays n first later cut) known.each) mount
      ∙ later_same kind first later kept session cut mount

-- ---- of all of them

none_more : (n : ℕ) (front more : History RingCall) → own n (front ++ more) ≡ own n front → own n more ≡ []
none_more n front more same =
    no_more (own n front) (own n more) (sym (own-append n front more) ∙ same)
  where
    no_more : (xs ys : List RingCall) → xs ++ ys ≡ xs → ys ≡ []
    no_more [] ys is = is
    no_more (x ∷ xs) ys is = let rest : xs ++ ys ≡ xs = cc in no_more xs ys rest

none_if : (P : ℕ → Bool) (e : ℕ × RingCall) (h : History RingCall) (is : Bool) → P e.0 ≡ is
    → (is ≡ true → own e.0 (e ∷ h) ≡ []) → P e.0 ≡ false
none_if P e h true is none = absurd ((own_none e.0 e h (none refl)).0 refl)
none_if P e h false is none = is

pub none_of : (P : ℕ → Bool) (h : History RingCall) → ((n : ℕ) → P n ≡ true → own n h ≡ [])
    → All (λ (entry : ℕ × RingCall). P entry.0 ≡ false) h
none_of P [] none = All-nil (λ (entry : ℕ × RingCall). P entry.0 ≡ false)
none_of P (e ∷ h) none =
    All-cons (λ (entry : ℕ × RingCall). P entry.0 ≡ false) e h
    (none_if P e h (P e.0) refl (λ is. none e.0 is))
    (none_of P h (λ n is. (own_none n e h (none n is)).1))

-- what is called later, nobody calls who was closed
pub later_uncut : (c : Config) (cap : ℕ) (kind : ScriptKind) (headings : ℕ → Heading) (first later : List Event)
    (mount : ℕ) (more : History RingCall) → KeepsRules cap c → IsSession kind (first ++ later)
    → history_at (world c headings (first ++ later)).histories.rings mount
    ≡ history_at (after_events c headings first).histories.rings mount ++ more
    → All (λ (entry : ℕ × RingCall). is_cut entry.0 first ≡ false) more
later_uncut c cap kind headings first later mount more kept session seen =
    none_of (λ n. is_cut n first) more
    (λ n cut. none_more n (history_at (after_events c headings first).histories.rings mount) more
    (ap (own n) (sym seen) ∙ cut_same c cap headings n kind first later kept session cut mount))
