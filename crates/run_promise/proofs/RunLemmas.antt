-- What stands of every connection of a run, and that no entry of a history is of anybody else.
use Rattle.std.proofs.Common.{◌≡◌, ◌≢◌, ◌∙◌, ◌⊎◌, ◌++◌, ℕ, zero, suc, Bool, true, false, cond, ◌<◌, IsTrue, List, [], ◌∷◌, length, map, fold, All, inl, inr, refl, sym, ap, subst, eq-eqb}
use Rattle.std.specs.Prelude.{◌==◌, ◌&&◌, ◌||◌, nat_lt}
use Rattle.std.proofs.lemmas.Bool.{and_parts, cases_eq, ne_eqb}
use Rattle.std.proofs.lemmas.List.{append-nil, length-map}
use Rattle.std.proofs.lemmas.List.Elements.{All-head, All-tail, All-cons, All-nil}
use Rattle.std.specs.List.{list_any}
use Rattle.turn_log.specs.History.{History, own}
use Rattle.turn_log.proofs.HeardLaws.{told_none}
use Rattle.mount_ring.specs.declared.call.RingCall.{RingCall}
use Rattle.session_script.specs.declared.Event.{Event}
use Rattle.session_script.specs.declared.Event.TheVariants as events
use Rattle.session_calls.specs.Rings.{history_at, answer_at, WentOn}
use Rattle.std.proofs.Math.Path.{fun_ext}
use Rattle.rover_session.proofs.SegmentLemmas.{Extends}
use Rattle.cast_config.specs.declared.config.Config.{Config}
use Rattle.cast_config.specs.declared.config.Mount.{Mount}
use Rattle.cast_config.specs.Kept.{KeepsRules}
use Rattle.session_model.specs.declared.ending.Last.TheVariants as lasts
use Rattle.session_model.specs.Setting.{shapes}
use Rattle.session_model.specs.Headings.{Heading}
use Rattle.session_model.specs.Judged.{Opening, sends_head, relays, bare_source, bare_rover}
use Rattle.session_model.specs.Owed.{Happening, arrives, takes_turn, ends}
use Rattle.session_model.specs.Endings.{goes_on}
use Rattle.session_model.specs.Run.{Histories, Connected, World, Moved, nothing_called, judged_of, moved, moved_if, is_concerned, happens_in, happens, placed_if, placed, is_opened, opened_if, fresh, opens, after_event, after_events, closes, world}
use Rattle.caster_replay.specs.Runs.{AreAbove, IsIncreasing}
use Rattle.caster_replay.proofs.WorldListLemmas.{none_above, moved_by, apart_moved, happens_nowhere, onto}
use Rattle.caster_replay.proofs.WorldRunLemmas.{increasing_placed}
use Rattle.caster_replay.proofs.WorldKnownLemmas.{opened_same, known_placed}
use Rattle.run_promise.proofs.StoodLemmas.{extends_same, Walked, Stood, AllBy, stood_on, fresh_moves, moved_if_moves}

-- what stands of a connection with these headings
abbrev pub IsStood : Config → (ℕ → Heading) → Histories → Connected → Type 0
IsStood c headings h d = Stood c (headings d.number) h d

abbrev AreStood : Config → (ℕ → Heading) → Histories → List Connected → Type 0
AreStood c headings h ds = All (IsStood c headings h) ds

-- calls of callers that are none of these leave what stands
stay_stood : (c : Config) (headings : ℕ → Heading) (old now : Histories) (ds : List Connected)
    → ((d : Connected) → is_opened d.number ds ≡ true → WentOn old.rings now.rings d.number)
    → AreStood c headings old ds → AreStood c headings now ds
stay_stood c headings old now [] others all = All-nil (IsStood c headings now)
stay_stood c headings old now (d ∷ ds) others all =
    All-cons (IsStood c headings now) d ds
    (stood_on c (headings d.number) old now d
    (others d (ap (λ (b : Bool). b || is_opened d.number ds) (eq-eqb d.number d.number refl)))
    (All-head (IsStood c headings old) d ds all))
    (stay_stood c headings old now ds
    (λ e there. others e (or_later (d.number == e.number) (is_opened e.number ds) there))
    (All-tail (IsStood c headings old) d ds all))
  where
    or_later : (a b : Bool) → b ≡ true → (a || b) ≡ true
    or_later true b is = refl
    or_later false b is = is

-- ---- what happens to a number

record Happened (c : Config) (headings : ℕ → Heading) (number : ℕ) (h : Histories) (ds : List Connected) (w : World)
    : Type 0 where
  size : length w.histories.rings ≡ length h.rings
  others : (me : ℕ) → me ≢ number → WentOn h.rings w.histories.rings me
  later : Extends h.rings w.histories.rings
  each : AreStood c headings w.histories w.connections
  above : (n : ℕ) → AreAbove n ds → AreAbove n w.connections
  order : IsIncreasing w.connections
  callers : (is_such : ℕ → Bool) → (is_opened number ds ≡ true → IsTrue (is_such number)) → (mount : ℕ)
      → AllBy is_such (history_at h.rings mount) → AllBy is_such (history_at w.histories.rings mount)

went_on_none : (rings : List (History RingCall)) (me : ℕ) → WentOn rings rings me
went_on_none rings me =
    record { size = refl; rings = λ mount. ([], sym (append-nil (history_at rings mount)), refl) }

-- another number than those above one
apart_above : (n : ℕ) (d : Connected) (ds : List Connected) → AreAbove n ds → is_opened d.number ds ≡ true
    → d.number ≢ n
apart_above n d ds above there same =
    let none : is_opened d.number ds ≡ false = subst (λ (k : ℕ). is_opened k ds ≡ false) (sym same) (none_above n ds
    above) in
    let clash : true ≡ false = sym there ∙ none in absurd cc

happens_here : (c : Config) (cap : ℕ) (headings : ℕ → Heading) (number : ℕ) (what : Happening) (h : Histories)
    (d : Connected) (ds : List Connected) → KeepsRules cap c → number ≡ d.number → IsIncreasing (d ∷ ds)
    → AreStood c headings h (d ∷ ds) → Happened c headings number h (d ∷ ds) (happens_in c headings number what h (d ∷ ds))
happens_here c cap headings number what h d ds kept same order all =
    let m = moved_by c headings number what h d in
    let moves = moved_if_moves (is_concerned c (headings d.number) number d) c cap (headings d.number) h d what kept
    (All-head (IsStood c headings h) d ds all)
    (λ is. (and_parts (d.number == number) (goes_on (judged_of c (headings d.number) d) d.steps d.closed) is).1) in
    let none : is_opened number ds ≡ false =
    subst (λ (n : ℕ). is_opened n ds ≡ false) (sym same) (none_above d.number ds order.0) in
    let is = ap (onto m.connection) (happens_nowhere c headings number what m.histories ds none) in
    subst (Happened c headings number h (d ∷ ds)) (sym is) (record {
      size = moves.size;
      others = λ me apart. moves.others me (λ e. apart (e ∙ sym same));
      later = moves.later;
      each = All-cons (IsStood c headings m.histories) m.connection ds
          (subst (λ (n : ℕ). Stood c (headings n) m.histories m.connection) (sym moves.number) moves.stood)
          (stay_stood c headings h m.histories ds
          (λ e there. moves.others e.number (apart_above d.number e ds order.0 there))
          (All-tail (IsStood c headings h) d ds all));
      above = λ n above. (subst (λ (k : ℕ). n < k) (sym moves.number) above.0, above.1);
      order = (subst (λ (k : ℕ). AreAbove k ds) (sym moves.number) order.0, order.1);
      callers = λ is_such is mount. moves.callers is_such
          (subst (λ (n : ℕ). IsTrue (is_such n)) same
          (is (ap (λ (b : Bool). b || is_opened number ds) (eq-eqb d.number number (sym same))))) mount;
    })

happens_all : (c : Config) (cap : ℕ) (headings : ℕ → Heading) (number : ℕ) (what : Happening) (h : Histories)
    (ds : List Connected) → KeepsRules cap c → IsIncreasing ds → AreStood c headings h ds
    → Happened c headings number h ds (happens_in c headings number what h ds)
happens_all c cap headings number what h [] kept order all = record {
  size = refl;
  others = λ me apart. went_on_none h.rings me;
  later = extends_same h.rings;
  each = All-nil (IsStood c headings h);
  above = λ n above. above;
  order = tt;
  callers = λ is_such is mount these. these;
}
happens_all c cap headings number what h (d ∷ ds) kept order all = elim (cases_eq number d.number) [
  | inl same ↦ happens_here c cap headings number what h d ds kept same order all
  | inr apart ↦
      let rest = happens_all c cap headings number what h ds kept order.1 (All-tail (IsStood c headings h) d ds all) in
      let w = happens_in c headings number what h ds in
      subst (λ (m : Moved). Happened c headings number h (d ∷ ds)
      (onto m.connection (happens_in c headings number what m.histories ds)))
      (sym (apart_moved c headings number what h d (λ e. apart (sym e)))) (record {
        size = rest.size;
        others = rest.others;
        later = rest.later;
        each = All-cons (IsStood c headings w.histories) d w.connections
            (stood_on c (headings d.number) h w.histories d (rest.others d.number (λ e. apart (sym e)))
            (All-head (IsStood c headings h) d ds all)) rest.each;
        above = λ n above. (above.0, rest.above n above.1);
        order = (rest.above d.number order.0, rest.order);
        callers = λ is_such is. rest.callers is_such
            (λ there. is (ap (λ (b : Bool). b || is_opened number ds) (ne_eqb d.number number (λ e. apart (sym e)))
            ∙ there));
      })
]

-- ---- the run

pub record IsRunning (c : Config) (headings : ℕ → Heading) (w : World) : Type 0 where
  pub size : length w.histories.rings ≡ length c.mount
  pub order : IsIncreasing w.connections
  pub each : All (IsStood c headings w.histories) w.connections
  pub callers : (mount : ℕ)
      → AllBy (λ n. is_opened n w.connections) (history_at w.histories.rings mount)

pub happens_runs : (c : Config) (cap : ℕ) (headings : ℕ → Heading) (w : World) (number : ℕ) (what : Happening)
    → KeepsRules cap c → IsRunning c headings w → IsRunning c headings (happens c headings w number what)
happens_runs c cap headings w number what kept run =
    let now = happens c headings w number what in
    let done = happens_all c cap headings number what w.histories w.connections kept run.order run.each in record {
      size = done.size ∙ run.size;
      order = done.order;
      each = done.each;
      callers = λ mount.
          subst (λ (is_such : ℕ → Bool). AllBy is_such (history_at now.histories.rings mount))
          (fun_ext (λ (n : ℕ). sym (opened_same c headings n number what w.histories w.connections)))
          (done.callers (λ n. is_opened n w.connections) (λ there. there) mount (run.callers mount));
    }

pub happens_extends : (c : Config) (cap : ℕ) (headings : ℕ → Heading) (w : World) (number : ℕ) (what : Happening)
    → KeepsRules cap c → IsRunning c headings w
    → Extends w.histories.rings (happens c headings w number what).histories.rings
happens_extends c cap headings w number what kept run =
    (happens_all c cap headings number what w.histories w.connections kept run.order run.each).later

-- others than the one to whom it happens call nothing
pub happens_others : (c : Config) (cap : ℕ) (headings : ℕ → Heading) (w : World) (number : ℕ) (what : Happening)
    → KeepsRules cap c → IsRunning c headings w → (me : ℕ) → me ≢ number
    → WentOn w.histories.rings (happens c headings w number what).histories.rings me
happens_others c cap headings w number what kept run =
    (happens_all c cap headings number what w.histories w.connections kept run.order run.each).others

swapped : (a b x : Bool) → (a || (b || x)) ≡ (b || (a || x))
swapped true true x = refl
swapped true false x = refl
swapped false true x = refl
swapped false false x = refl

pub placed_opened : (n : ℕ) (d : Connected) (ds : List Connected)
    → is_opened n (placed d ds) ≡ ((d.number == n) || is_opened n ds)
placed_opened n d [] = refl
placed_opened n d (e ∷ ds) =
    elim (nat_lt e.number d.number) as (λ b. is_opened n (placed_if b d e ds (placed d ds))
    ≡ ((d.number == n) || is_opened n (e ∷ ds))) [
      | true ↦
          ap (λ (b : Bool). (e.number == n) || b) (placed_opened n d ds)
          ∙ swapped (e.number == n) (d.number == n) (is_opened n ds)
      | false ↦ refl
    ]

all_by : (x y : ℕ → Bool) (h : History RingCall) → ((n : ℕ) → IsTrue (x n) → IsTrue (y n)) → AllBy x h → AllBy y h
all_by x y [] from all = All-nil (λ (entry : ℕ × RingCall). IsTrue (y entry.0))
all_by x y (entry ∷ h) from all =
    All-cons (λ (entry : ℕ × RingCall). IsTrue (y entry.0)) entry h
    (from entry.0 (All-head (λ (entry : ℕ × RingCall). IsTrue (x entry.0)) entry h all))
    (all_by x y h from (All-tail (λ (entry : ℕ × RingCall). IsTrue (x entry.0)) entry h all))

or_first : (a b : Bool) → b ≡ true → (a || b) ≡ true
or_first true b is = refl
or_first false b is = is

-- before the first call
none_called : (mounts : List Mount) (at : ℕ) → history_at (map (λ (mount : Mount). []) mounts) at ≡ []
none_called [] at = refl
none_called (mount ∷ mounts) zero = refl
none_called (mount ∷ mounts) (suc at) = none_called mounts at

pub nothing_at : (c : Config) (mount : ℕ) → history_at (nothing_called c).rings mount ≡ []
nothing_at c mount = none_called c.mount mount

-- who was not opened called nothing
none_own : (is_such : ℕ → Bool) (number : ℕ) (h : History RingCall) → is_such number ≡ false → AllBy is_such h
    → own number h ≡ []
none_own is_such number [] not all = refl
none_own is_such number (entry ∷ h) not all =
    let one : is_such entry.0 ≡ true = All-head (λ (e : ℕ × RingCall). IsTrue (is_such e.0)) entry h all in
    let apart : entry.0 ≢ number =
    λ same. let clash : true ≡ false = sym one ∙ ap is_such same ∙ not in absurd cc in
    ap (λ (b : Bool). cond b (entry.1 ∷ own number h) (own number h)) (ne_eqb entry.0 number apart)
    ∙ none_own is_such number h not (All-tail (λ (e : ℕ × RingCall). IsTrue (is_such e.0)) entry h all)

pub new_walked : (c : Config) (headings : ℕ → Heading) (w : World) (number : ℕ) → is_opened number w.connections ≡ false
    → IsRunning c headings w → Walked c w.histories number []
new_walked c headings w number not run = record {
  size = run.size;
  went = record {
    size = run.size ∙ sym (length-map c.mount (λ (mount : Mount). []));
    rings = λ mount. record {
      more = history_at w.histories.rings mount;
      seen = ap (λ (h : History RingCall). h ++ history_at w.histories.rings mount) (sym (nothing_at c mount));
      mine = told_none (answer_at (shapes c) mount) number (history_at (nothing_called c).rings mount)
          (history_at w.histories.rings mount)
          (none_own (λ n. is_opened n w.connections) number (history_at w.histories.rings mount) not
          (run.callers mount));
      nothing_else = λ is. absurd cc;
    };
  };
  answered = tt;
  on = tt;
  within = tt;
}

opened_runs : (known : Bool) (c : Config) (cap : ℕ) (headings : ℕ → Heading) (w : World) (number : ℕ) (o : Opening)
    → KeepsRules cap c → is_opened number w.connections ≡ known → IsRunning c headings w
    → IsRunning c headings
    (opened_if known w (moved c (headings number) w.histories (fresh number o) (arrives [])))
opened_runs true c cap headings w number o kept is run = run
opened_runs false c cap headings w number o kept is run =
    let ds = w.connections in
    let m = moved c (headings number) w.histories (fresh number o) (arrives []) in
    let d = m.connection in
    let moves = fresh_moves c cap (headings number) w.histories number o kept (new_walked c headings w number is run) in
    let here : (n : ℕ) → is_opened n (placed d ds) ≡ ((number == n) || is_opened n ds) =
    λ n. placed_opened n d ds ∙ ap (λ (k : ℕ). (k == n) || is_opened n ds) moves.number in
    record {
      size = moves.size ∙ run.size;
      order = increasing_placed d ds (ap (λ (n : ℕ). is_opened n ds) moves.number ∙ is) run.order;
      each = known_placed (IsStood c headings m.histories) d ds
          (subst (λ (n : ℕ). Stood c (headings n) m.histories d) (sym moves.number) moves.stood)
          (stay_stood c headings w.histories m.histories ds
          (λ e there. moves.others e.number
          (λ same. let clash : true ≡ false = sym there ∙ ap (λ (n : ℕ). is_opened n ds) same ∙ is in absurd cc))
          run.each);
      callers = λ mount.
          moves.callers (λ n. is_opened n (placed d ds))
          (here number ∙ ap (λ (b : Bool). b || is_opened number ds) (eq-eqb number number refl)) mount
          (all_by (λ n. is_opened n ds) (λ n. is_opened n (placed d ds)) (history_at w.histories.rings mount)
          (λ n there. here n ∙ or_first (number == n) (is_opened n ds) there) (run.callers mount));
    }

opened_extends : (known : Bool) (c : Config) (cap : ℕ) (headings : ℕ → Heading) (w : World) (number : ℕ)
    (o : Opening) → KeepsRules cap c → is_opened number w.connections ≡ known → IsRunning c headings w
    → Extends w.histories.rings
    (opened_if known w (moved c (headings number) w.histories (fresh number o) (arrives []))).histories.rings
opened_extends true c cap headings w number o kept is run = extends_same w.histories.rings
opened_extends false c cap headings w number o kept is run =
    (fresh_moves c cap (headings number) w.histories number o kept (new_walked c headings w number is run)).later

opened_others : (known : Bool) (c : Config) (cap : ℕ) (headings : ℕ → Heading) (w : World) (number : ℕ)
    (o : Opening) → KeepsRules cap c → is_opened number w.connections ≡ known → IsRunning c headings w
    → (me : ℕ) → (known ≡ false → me ≢ number) → WentOn w.histories.rings
    (opened_if known w (moved c (headings number) w.histories (fresh number o) (arrives []))).histories.rings me
opened_others true c cap headings w number o kept is run me apart = went_on_none w.histories.rings me
opened_others false c cap headings w number o kept is run me apart =
    (fresh_moves c cap (headings number) w.histories number o kept (new_walked c headings w number is run)).others me
    (apart refl)

-- others than one that newly opens call nothing
pub opens_others : (c : Config) (cap : ℕ) (headings : ℕ → Heading) (w : World) (number : ℕ) (o : Opening)
    → KeepsRules cap c → IsRunning c headings w → (me : ℕ)
    → (is_opened number w.connections ≡ false → me ≢ number)
    → WentOn w.histories.rings (opens c headings w number o).histories.rings me
opens_others c cap headings w number o kept run me apart =
    opened_others (is_opened number w.connections) c cap headings w number o kept refl run me apart

pub opens_extends : (c : Config) (cap : ℕ) (headings : ℕ → Heading) (w : World) (number : ℕ) (o : Opening)
    → KeepsRules cap c → IsRunning c headings w
    → Extends w.histories.rings (opens c headings w number o).histories.rings
opens_extends c cap headings w number o kept run =
    opened_extends (is_opened number w.connections) c cap headings w number o kept refl run

pub opens_runs : (c : Config) (cap : ℕ) (headings : ℕ → Heading) (w : World) (number : ℕ) (o : Opening)
    → KeepsRules cap c → IsRunning c headings w → IsRunning c headings (opens c headings w number o)
opens_runs c cap headings w number o kept run =
    opened_runs (is_opened number w.connections) c cap headings w number o kept refl run

pub event_runs : (c : Config) (cap : ℕ) (headings : ℕ → Heading) (w : World) (event : Event) → KeepsRules cap c
    → IsRunning c headings w → IsRunning c headings (after_event c headings w event)
event_runs c cap headings w (events.Source number mount) kept run =
    opens_runs c cap headings w number (bare_source mount) kept run
event_runs c cap headings w (events.Rover number mount) kept run =
    opens_runs c cap headings w number (bare_rover mount) kept run
event_runs c cap headings w (events.Open number) kept run = opens_runs c cap headings w number sends_head kept run
event_runs c cap headings w (events.Relay number relay) kept run =
    opens_runs c cap headings w number (relays relay) kept run
event_runs c cap headings w (events.In number bytes) kept run =
    happens_runs c cap headings w number (arrives bytes) kept run
event_runs c cap headings w (events.Turn number budget) kept run =
    happens_runs c cap headings w number (takes_turn budget) kept run
event_runs c cap headings w (events.Break number) kept run =
    happens_runs c cap headings w number (ends lasts.ReadFault) kept run
event_runs c cap headings w (events.End number) kept run =
    happens_runs c cap headings w number (ends lasts.End) kept run

events_run : (c : Config) (cap : ℕ) (headings : ℕ → Heading) (w : World) (list : List Event) → KeepsRules cap c
    → IsRunning c headings w → IsRunning c headings (fold (after_event c headings) w list)
events_run c cap headings w [] kept run = run
events_run c cap headings w (event ∷ more) kept run =
    events_run c cap headings (after_event c headings w event) more kept (event_runs c cap headings w event kept run)

closes_run : (c : Config) (cap : ℕ) (headings : ℕ → Heading) (w : World) (numbers : List ℕ) → KeepsRules cap c
    → IsRunning c headings w → IsRunning c headings (closes c headings w numbers)
closes_run c cap headings w [] kept run = run
closes_run c cap headings w (number ∷ more) kept run =
    closes_run c cap headings (happens c headings w number (ends lasts.End)) more kept
    (happens_runs c cap headings w number (ends lasts.End) kept run)

-- ---- at the end each is over

abbrev pub IsOver : Config → (ℕ → Heading) → Connected → Type 0
IsOver c headings d = goes_on (judged_of c (headings d.number) d) d.steps d.closed ≡ false

-- it is over, or has one of these numbers
abbrev is_among : ℕ → List ℕ → Bool
is_among k numbers = list_any (λ n. n == k) numbers

abbrev IsDue : Config → (ℕ → Heading) → List ℕ → Connected → Type 0
IsDue c headings numbers d = IsOver c headings d ⊎ (is_among d.number numbers ≡ true)

-- closed by its end, or over before
ends_over : (concerned : Bool) (c : Config) (headings : ℕ → Heading) (h : Histories) (d : Connected)
    → (concerned ≡ false → IsOver c headings d)
    → IsOver c headings (moved_if concerned c (headings d.number) h d (ends lasts.End)).connection
ends_over true c headings h d over = refl
ends_over false c headings h d over = over refl

over_from : (here goes : Bool) → here ≡ true → (here && goes) ≡ false → goes ≡ false
over_from true goes is none = none
over_from false goes is none = absurd cc

due_apart : (c : Config) (headings : ℕ → Heading) (number : ℕ) (numbers : List ℕ) (d : Connected)
    → number ≢ d.number → IsDue c headings (number ∷ numbers) d → IsDue c headings numbers d
due_apart c headings number numbers d apart (inl over) = inl over
due_apart c headings number numbers d apart (inr there) =
    inr (sym (ap (λ (b : Bool). b || is_among d.number numbers) (ne_eqb number d.number apart)) ∙ there)

due_one : (c : Config) (headings : ℕ → Heading) (number : ℕ) (numbers : List ℕ) (h : Histories) (d : Connected)
    → IsDue c headings (number ∷ numbers) d
    → IsDue c headings numbers (moved_by c headings number (ends lasts.End) h d).connection
due_one c headings number numbers h d due = elim (cases_eq number d.number) [
  | inl same ↦
      inl (ends_over (is_concerned c (headings d.number) number d) c headings h d
      (λ is. over_from (d.number == number) (goes_on (judged_of c (headings d.number) d) d.steps d.closed)
      (eq-eqb d.number number (sym same)) is))
  | inr apart ↦
      subst (λ (m : Moved). IsDue c headings numbers m.connection)
      (sym (apart_moved c headings number (ends lasts.End) h d (λ e. apart (sym e))))
      (due_apart c headings number numbers d apart due)
]

due_in : (c : Config) (headings : ℕ → Heading) (number : ℕ) (numbers : List ℕ) (h : Histories) (ds : List Connected)
    → All (IsDue c headings (number ∷ numbers)) ds
    → All (IsDue c headings numbers) (happens_in c headings number (ends lasts.End) h ds).connections
due_in c headings number numbers h [] all = All-nil (IsDue c headings numbers)
due_in c headings number numbers h (d ∷ ds) all =
    let m = moved_by c headings number (ends lasts.End) h d in
    All-cons (IsDue c headings numbers) m.connection _
    (due_one c headings number numbers h d (All-head (IsDue c headings (number ∷ numbers)) d ds all))
    (due_in c headings number numbers m.histories ds (All-tail (IsDue c headings (number ∷ numbers)) d ds all))

none_due : (c : Config) (headings : ℕ → Heading) (ds : List Connected) → All (IsDue c headings []) ds
    → All (IsOver c headings) ds
none_due c headings [] all = All-nil (IsOver c headings)
none_due c headings (d ∷ ds) all =
    All-cons (IsOver c headings) d ds (only_over (All-head (IsDue c headings []) d ds all))
    (none_due c headings ds (All-tail (IsDue c headings []) d ds all))
  where
    only_over : IsDue c headings [] d → IsOver c headings d
    only_over (inl over) = over
    only_over (inr there) = absurd cc

closes_over : (c : Config) (headings : ℕ → Heading) (w : World) (numbers : List ℕ)
    → All (IsDue c headings numbers) w.connections → All (IsOver c headings) (closes c headings w numbers).connections
closes_over c headings w [] all = none_due c headings w.connections all
closes_over c headings w (number ∷ more) all =
    closes_over c headings (happens c headings w number (ends lasts.End)) more
    (due_in c headings number more w.histories w.connections all)

all_due : (c : Config) (headings : ℕ → Heading) (numbers : List ℕ) (ds : List Connected)
    → ((k : ℕ) → is_opened k ds ≡ true → is_among k numbers ≡ true) → All (IsDue c headings numbers) ds
all_due c headings numbers [] among = All-nil (IsDue c headings numbers)
all_due c headings numbers (d ∷ ds) among =
    All-cons (IsDue c headings numbers) d ds
    (inr (among d.number (ap (λ (b : Bool). b || is_opened d.number ds) (eq-eqb d.number d.number refl))))
    (all_due c headings numbers ds (λ k there. among k (or_first (d.number == k) (is_opened k ds) there)))

same_among : (k : ℕ) (ds : List Connected) → is_among k (map (λ (d : Connected). d.number) ds) ≡ is_opened k ds
same_among k [] = refl
same_among k (d ∷ ds) = ap (λ (b : Bool). (d.number == k) || b) (same_among k ds)

pub world_over : (c : Config) (headings : ℕ → Heading) (list : List Event)
    → All (IsOver c headings) (world c headings list).connections
world_over c headings list =
    let w = after_events c headings list in
    let numbers : List ℕ = map (λ (d : Connected). d.number) w.connections in
    closes_over c headings w numbers
    (all_due c headings numbers w.connections (λ k there. same_among k w.connections ∙ there))

-- ---- the whole run

pub events_runs : (c : Config) (cap : ℕ) (headings : ℕ → Heading) (list : List Event) → KeepsRules cap c
    → IsRunning c headings (after_events c headings list)
events_runs c cap headings list kept =
    events_run c cap headings (record { connections = []; histories = nothing_called c }) list kept (record {
      size = length-map c.mount (λ (mount : Mount). []);
      order = tt;
      each = All-nil (IsStood c headings (nothing_called c));
      callers = λ mount. subst (AllBy (λ n. false)) (sym (nothing_at c mount))
          (All-nil (λ (entry : ℕ × RingCall). IsTrue false));
    })

pub world_runs : (c : Config) (cap : ℕ) (headings : ℕ → Heading) (list : List Event) → KeepsRules cap c
    → IsRunning c headings (world c headings list)
world_runs c cap headings list kept =
    closes_run c cap headings (after_events c headings list)
    (map (λ (d : Connected). d.number) (after_events c headings list).connections) kept
    (events_runs c cap headings list kept)
