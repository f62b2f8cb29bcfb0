-- Which rovers are let in is settled by the first call of each, which stays what it is.
use Rattle.std.proofs.Common.{◌≡◌, ◌∙◌, ◌++◌, ℕ, Bool, true, false, cond, List, [], ◌∷◌, map, fold, All, Option, None, Some, inl, inr, refl, sym, ap, subst, arith, eq-eqb}
use Rattle.std.specs.Prelude.{◌==◌, ◌&&◌, nat_lt}
use Rattle.std.proofs.lemmas.Bool.{cases_eq, ne_eqb}
use Rattle.std.proofs.lemmas.List.Sums.{fold-append}
use Rattle.std.proofs.lemmas.List.Elements.{All-head, All-tail, All-cons, All-nil}
use Rattle.session_script.specs.declared.Event.{Event}
use Rattle.session_script.specs.declared.Event.TheVariants as events
use Rattle.session_calls.specs.Steps.{Answer, Step, answer_of}
use Rattle.session_model.proofs.CameLemmas.{entered_let}
use Rattle.session_core.proofs.ClosingLemmas.{free_closed, free_out, uncalled_free}
use Rattle.session_calls.specs.Plans.{Plan}
use Rattle.source_session.specs.Body.{frames_of}
use Rattle.rover_session.specs.Made.{owed_among}
use Rattle.rover_session.proofs.MadeLemmas.{owed-append}
use Rattle.cast_config.specs.declared.config.Config.{Config}
use Rattle.session_model.specs.declared.ending.Ending.{Ending}
use Rattle.session_model.specs.declared.ending.Last.{Last}
use Rattle.session_model.specs.declared.ending.Last.TheVariants as lasts
use Rattle.session_model.specs.Headings.{Heading}
use Rattle.session_model.specs.Judged.{Opening, sends_head, relays, bare_source, bare_rover, RoverTerms, Judged, waiting, finished, source, rover}
use Rattle.session_model.specs.Owed.{came_by, first_answer, came_to, is_let_in, closing, Happening, arrives, takes_turn, ends}
use Rattle.session_model.specs.Reports.{is_entered}
use Rattle.session_model.specs.Run.{Histories, Connected, World, Moved, nothing_called, made, judged_of, makes, closed_if, with_text, moved, moved_if, is_concerned, happens_in, happens, placed_if, placed, is_opened, opened_if, fresh, opens, after_event, after_events, closes, world}
use Rattle.caster_replay.specs.Runs.{AreAbove, IsIncreasing}
use Rattle.caster_replay.proofs.WorldListLemmas.{apart_first, none_later}
use Rattle.run_promise.specs.Promised.{is_rover}
use Rattle.run_promise.proofs.AccountLemmas.{Facts, received_is, first_answered, entry_made}
use Rattle.run_promise.proofs.SourceLemmas.{source_made}

-- ---- the first step of one connection

abbrev pub first_of : List Step → Option Step
first_of [] = None
first_of (step ∷ steps) = Some step

first_stays : (steps more : List Step) (step : Step) → first_of steps ≡ Some step
    → first_of (steps ++ more) ≡ Some step
first_stays [] more step is = absurd cc
first_stays (first ∷ steps) more step is = is

-- it has the same number, and the first step if there was one
abbrev Stays : Connected → Connected → Type 0
Stays d now =
    (now.number ≡ d.number)
    × ((step : Step) → first_of d.steps ≡ Some step → first_of now.steps ≡ Some step)

closed_stays : (end : Option Ending) (c : Config) (j : Judged) (d : Connected) (m : Moved) → Stays d m.connection
    → Stays d (closed_if end c j m).connection
closed_stays None c j d m stays = stays
closed_stays (Some end) c j d m stays = (
  stays.0,
  λ step is. first_stays m.connection.steps
      (made c m.connection.number m.histories (closing j m.connection.steps)) step (stays.1 step is),
)

moved_stays : (c : Config) (heading : Heading) (h : Histories) (d : Connected) (what : Happening)
    → Stays d (moved c heading h d what).connection
moved_stays c heading h d (arrives more) =
    closed_stays _ c (judged_of c heading (with_text d (d.text ++ more))) d (makes c h (with_text d (d.text ++ more)) _)
    (refl, λ step is. first_stays d.steps _ step is)
moved_stays c heading h d (takes_turn budget) = (refl, λ step is. first_stays d.steps _ step is)
moved_stays c heading h d (ends last) = (refl, λ step is. first_stays d.steps _ step is)

moved_if_stays : (concerned : Bool) (c : Config) (heading : Heading) (h : Histories) (d : Connected)
    (what : Happening) → Stays d (moved_if concerned c heading h d what).connection
moved_if_stays true c heading h d what = moved_stays c heading h d what
moved_if_stays false c heading h d what = (refl, λ step is. is)

-- one that called nothing calls nothing when it is closed
none_closing : (c : Config) (me : ℕ) (h : Histories) (j : Judged) (steps : List Step) → first_of steps ≡ None
    → first_of (steps ++ made c me h (closing j steps)) ≡ None
none_closing c me h j [] none =
    ap (λ (plan : Plan). first_of (made c me h plan)) (free_closed _ [] (uncalled_free [] refl j))
none_closing c me h j (step ∷ steps) none = absurd cc

none_ends : (concerned : Bool) (c : Config) (heading : Heading) (h : Histories) (d : Connected) (last : Last)
    → first_of d.steps ≡ None
    → first_of (moved_if concerned c heading h d (ends last)).connection.steps ≡ None
none_ends true c heading h d last none = none_closing c d.number h (judged_of c heading d) d.steps none
none_ends false c heading h d last none = none

-- ---- the first step of this number

abbrev pub first_in : ℕ → List Connected → Option Step
first_in n [] = None
first_in n (d ∷ ds) = cond (d.number == n) (first_of d.steps) (first_in n ds)

abbrev AllStay : List Connected → List Connected → Type 0
AllStay ds now = (n : ℕ) (step : Step) → first_in n ds ≡ Some step → first_in n now ≡ Some step

either_stays : (here : Bool) (a b x y is : Option Step) → (a ≡ is → x ≡ is) → (b ≡ is → y ≡ is)
    → cond here a b ≡ is → cond here x y ≡ is
either_stays true a b x y is first later there = first there
either_stays false a b x y is first later there = later there

-- of a connection of the same number, before others
before_stays : (n : ℕ) (d e : Connected) (ds es : List Connected) (is : Option Step) → e.number ≡ d.number
    → (first_of d.steps ≡ is → first_of e.steps ≡ is) → (first_in n ds ≡ is → first_in n es ≡ is)
    → first_in n (d ∷ ds) ≡ is → first_in n (e ∷ es) ≡ is
before_stays n d e ds es is same first later there =
    subst (λ (k : ℕ). cond (k == n) (first_of e.steps) (first_in n es) ≡ is) (sym same)
    (either_stays (d.number == n) (first_of d.steps) (first_in n ds) (first_of e.steps) (first_in n es) is first later
    there)

happens_stay : (c : Config) (headings : ℕ → Heading) (number : ℕ) (what : Happening) (h : Histories)
    (ds : List Connected) → AllStay ds (happens_in c headings number what h ds).connections
happens_stay c headings number what h [] = λ n step is. is
happens_stay c headings number what h (d ∷ ds) = λ n step is.
    let concerned : Bool = is_concerned c (headings d.number) number d in
    let m = moved_if concerned c (headings d.number) h d what in
    let stays = moved_if_stays concerned c (headings d.number) h d what in
    before_stays n d m.connection ds (happens_in c headings number what m.histories ds).connections (Some step)
    stays.0 (stays.1 step) (happens_stay c headings number what m.histories ds n step) is

none_first : (n : ℕ) (ds : List Connected) → is_opened n ds ≡ false → first_in n ds ≡ None
none_first n [] none = refl
none_first n (d ∷ ds) none =
    ap (λ (b : Bool). cond b (first_of d.steps) (first_in n ds)) (ne_eqb d.number n (apart_first n d ds none))
    ∙ none_first n ds (none_later n d ds none)

-- one of a new number is placed among others
new_first : (n : ℕ) (step : Step) (d : Connected) (ds : List Connected) → is_opened d.number ds ≡ false
    → first_in n ds ≡ Some step → first_in n (d ∷ ds) ≡ Some step
new_first n step d ds none is = elim (cases_eq d.number n) [
  | inl same ↦
      let nothing : first_in n ds ≡ None =
      none_first n ds (subst (λ (k : ℕ). is_opened k ds ≡ false) same none) in
      let clash : Some step ≡ None = sym is ∙ nothing in absurd cc
  | inr apart ↦
      ap (λ (b : Bool). cond b (first_of d.steps) (first_in n ds)) (ne_eqb d.number n apart) ∙ is
]

placed_if_stays : (below : Bool) (n : ℕ) (step : Step) (d e : Connected) (ds : List Connected)
    → is_opened d.number (e ∷ ds) ≡ false → (first_in n ds ≡ Some step → first_in n (placed d ds) ≡ Some step)
    → first_in n (e ∷ ds) ≡ Some step → first_in n (placed_if below d e ds (placed d ds)) ≡ Some step
placed_if_stays true n step d e ds none later is =
    before_stays n e e ds (placed d ds) (Some step) refl (λ there. there) later is
placed_if_stays false n step d e ds none later is = new_first n step d (e ∷ ds) none is

placed_stay : (d : Connected) (ds : List Connected) → is_opened d.number ds ≡ false → AllStay ds (placed d ds)
placed_stay d [] none = λ n step is. absurd cc
placed_stay d (e ∷ ds) none = λ n step is.
    placed_if_stays (nat_lt e.number d.number) n step d e ds none
    (placed_stay d ds (none_later d.number e ds none) n step) is

-- ---- the first steps of a run

opened_stay : (known : Bool) (c : Config) (headings : ℕ → Heading) (w : World) (number : ℕ) (o : Opening)
    → is_opened number w.connections ≡ known → AllStay w.connections
    (opened_if known w (moved c (headings number) w.histories (fresh number o) (arrives []))).connections
opened_stay true c headings w number o is = λ n step there. there
opened_stay false c headings w number o is =
    let m = moved c (headings number) w.histories (fresh number o) (arrives []) in
    placed_stay m.connection w.connections
    (ap (λ (k : ℕ). is_opened k w.connections)
    (moved_stays c (headings number) w.histories (fresh number o) (arrives [])).0 ∙ is)

opens_stay : (c : Config) (headings : ℕ → Heading) (w : World) (number : ℕ) (o : Opening)
    → AllStay w.connections (opens c headings w number o).connections
opens_stay c headings w number o = opened_stay (is_opened number w.connections) c headings w number o refl

event_stay : (c : Config) (headings : ℕ → Heading) (w : World) (event : Event)
    → AllStay w.connections (after_event c headings w event).connections
event_stay c headings w (events.Source number mount) = opens_stay c headings w number (bare_source mount)
event_stay c headings w (events.Rover number mount) = opens_stay c headings w number (bare_rover mount)
event_stay c headings w (events.Open number) = opens_stay c headings w number sends_head
event_stay c headings w (events.Relay number relay) = opens_stay c headings w number (relays relay)
event_stay c headings w (events.In number bytes) =
    happens_stay c headings number (arrives bytes) w.histories w.connections
event_stay c headings w (events.Turn number budget) =
    happens_stay c headings number (takes_turn budget) w.histories w.connections
event_stay c headings w (events.Break number) =
    happens_stay c headings number (ends lasts.ReadFault) w.histories w.connections
event_stay c headings w (events.End number) =
    happens_stay c headings number (ends lasts.End) w.histories w.connections

events_stay : (c : Config) (headings : ℕ → Heading) (w : World) (list : List Event)
    → AllStay w.connections (fold (after_event c headings) w list).connections
events_stay c headings w [] = λ n step is. is
events_stay c headings w (event ∷ more) = λ n step is.
    events_stay c headings (after_event c headings w event) more n step (event_stay c headings w event n step is)

closes_stay : (c : Config) (headings : ℕ → Heading) (w : World) (numbers : List ℕ)
    → AllStay w.connections (closes c headings w numbers).connections
closes_stay c headings w [] = λ n step is. is
closes_stay c headings w (number ∷ more) = λ n step is.
    closes_stay c headings (happens c headings w number (ends lasts.End)) more n step
    (happens_stay c headings number (ends lasts.End) w.histories w.connections n step is)

none_in : (c : Config) (headings : ℕ → Heading) (number n : ℕ) (last : Last) (h : Histories) (ds : List Connected)
    → first_in n ds ≡ None → first_in n (happens_in c headings number (ends last) h ds).connections ≡ None
none_in c headings number n last h [] none = none
none_in c headings number n last h (d ∷ ds) none =
    let concerned : Bool = is_concerned c (headings d.number) number d in
    let m = moved_if concerned c (headings d.number) h d (ends last) in
    before_stays n d m.connection ds (happens_in c headings number (ends last) m.histories ds).connections None
    (moved_if_stays concerned c (headings d.number) h d (ends last)).0
    (none_ends concerned c (headings d.number) h d last)
    (none_in c headings number n last m.histories ds) none

none_closes : (c : Config) (headings : ℕ → Heading) (w : World) (numbers : List ℕ) (n : ℕ)
    → first_in n w.connections ≡ None → first_in n (closes c headings w numbers).connections ≡ None
none_closes c headings w [] n none = none
none_closes c headings w (number ∷ more) n none =
    none_closes c headings (happens c headings w number (ends lasts.End)) more n
    (none_in c headings number n lasts.End w.histories w.connections none)

-- ---- of a beginning of a script, and of all of it

same_if : (c : Config) (headings : ℕ → Heading) (first later : List Event) (n : ℕ) (step : Step)
    (there : Option Step) → first_in n (after_events c headings first).connections ≡ there
    → first_in n (world c headings first).connections ≡ Some step
    → first_in n (world c headings (first ++ later)).connections ≡ Some step
same_if c headings first later n step None there is =
    let early = after_events c headings first in
    let none : first_in n (world c headings first).connections ≡ None =
    none_closes c headings early (map (λ (d : Connected). d.number) early.connections) n there in
    let clash : Some step ≡ None = sym is ∙ none in absurd cc
same_if c headings first later n step (Some one) there is =
    let early = after_events c headings first in
    let late = after_events c headings (first ++ later) in
    let here : first_in n (world c headings first).connections ≡ Some one =
    closes_stay c headings early (map (λ (d : Connected). d.number) early.connections) n one there in
    let same : Some one ≡ Some step = sym here ∙ is in
    let split : late ≡ fold (after_event c headings) early later =
    fold-append (after_event c headings) (record { connections = []; histories = nothing_called c }) first later in
    closes_stay c headings late (map (λ (d : Connected). d.number) late.connections) n one
    (ap (λ (w : World). first_in n w.connections) split ∙ events_stay c headings early later n one there)
    ∙ same

pub same_first : (c : Config) (headings : ℕ → Heading) (first later : List Event) (n : ℕ) (step : Step)
    → first_in n (world c headings first).connections ≡ Some step
    → first_in n (world c headings (first ++ later)).connections ≡ Some step
same_first c headings first later n step is =
    same_if c headings first later n step (first_in n (after_events c headings first).connections) refl is

-- ---- each has its own

abbrev pub IsFound : List Connected → Connected → Type 0
IsFound ds d = first_in d.number ds ≡ first_of d.steps

found_behind : (d : Connected) (ds es : List Connected) → AreAbove d.number es → All (IsFound ds) es
    → All (IsFound (d ∷ ds)) es
found_behind d ds [] above all = All-nil (IsFound (d ∷ ds))
found_behind d ds (e ∷ es) above all =
    All-cons (IsFound (d ∷ ds)) e es
    (ap (λ (b : Bool). cond b (first_of d.steps) (first_in e.number ds))
    (ne_eqb d.number e.number (λ same. absurd (omega (arith, same, above.0))))
    ∙ All-head (IsFound ds) e es all)
    (found_behind d ds es above.1 (All-tail (IsFound ds) e es all))

pub all_found : (ds : List Connected) → IsIncreasing ds → All (IsFound ds) ds
all_found [] order = All-nil (IsFound [])
all_found (d ∷ ds) order =
    All-cons (IsFound (d ∷ ds)) d ds
    (ap (λ (b : Bool). cond b (first_of d.steps) (first_in d.number ds)) (eq-eqb d.number d.number refl))
    (found_behind d ds ds order.0 (all_found ds order.1))

-- ---- who is let in

-- whether the first step let its connection into an account
abbrev enters_by : Option Step → Bool
enters_by None = false
enters_by (Some step) = is_let_in (answer_of step)

-- whether the connection of this number entered an account
abbrev pub lets_in : World → ℕ → Bool
lets_in w n = enters_by (first_in n w.connections)

-- those that called something are let in so
abbrev pub AreLet : World → (ℕ → Bool) → Type 0
AreLet w lets =
    (n : ℕ) (step : Step) → first_in n w.connections ≡ Some step → is_let_in (answer_of step) ≡ lets n

pub own_lets : (w : World) → AreLet w (lets_in w)
own_lets w = λ n step is. ap enters_by (sym is)

pub early_lets : (c : Config) (headings : ℕ → Heading) (first later : List Event)
    → AreLet (world c headings first) (lets_in (world c headings (first ++ later)))
early_lets c headings first later = λ n step is.
    own_lets (world c headings (first ++ later)) n step (same_first c headings first later n step is)

by_first : (steps : List Step) (step : Step) → first_of steps ≡ Some step
    → first_answer steps ≡ Some (answer_of step)
by_first [] step is = absurd cc
by_first (first ∷ steps) step is =
    let same : first ≡ step = cc in ap (λ (s : Step). Some (answer_of s)) same

-- ---- by its judgement

module _ (c : Config) (h : Histories) (d : Connected) (j : Judged) (rest : List ℕ) (f : Facts c h d j rest) where
  never_entered : (steps : List Step) → owed_among f.first ≡ steps
      → is_entered (came_to j (steps ++ owed_among f.last)) ≡ false → is_entered (came_to j d.steps) ≡ false
  never_entered steps are not =
      ap (λ (r : Option Answer). is_entered (came_by j r))
      (received_is c h d j rest f ∙ ap (λ (l : List Step). first_answer (l ++ owed_among f.last)) are) ∙ not

  quiet_entered : owed_among f.first ≡ [] → owed_among f.last ≡ [] → is_entered (came_to j d.steps) ≡ false
  quiet_entered first last =
      never_entered [] first (free_out (came_to j (owed_among f.last)) (uncalled_free (owed_among f.last) last j))

has_first : (steps : List Step) (one : Step) (more : List Step) → owed_among steps ≡ one ∷ more
    → (step : Step) × (first_of steps ≡ Some step)
has_first [] one more is = absurd cc
has_first (step ∷ steps) one more is = (step, refl)

rover_entered : (c : Config) (h : Histories) (d : Connected) (terms : RoverTerms) (tail rest : List ℕ)
    (f : Facts c h d (rover terms tail) rest)
    (lets : Bool) (one : Step) (more : List Step) → owed_among f.first ≡ one ∷ more
    → ((step : Step) → first_of d.steps ≡ Some step → is_let_in (answer_of step) ≡ lets)
    → is_entered (came_to (rover terms tail) d.steps) ≡ lets
rover_entered c h d terms tail rest f lets one more are so =
    let first = has_first d.steps one (more ++ owed_among f.last)
    (ap owed_among f.split ∙ owed-append f.first f.last ∙ ap (λ (l : List Step). l ++ owed_among f.last) are) in
    ap (λ (r : Option Answer). is_entered (came_by (rover terms tail) r)) (by_first d.steps first.0 first.1)
    ∙ entered_let terms (answer_of first.0) ∙ so first.0 first.1

-- nobody entered but rovers, and each of these as it is let in
pub entered_as : (c : Config) (h : Histories) (d : Connected) (j : Judged) (rest : List ℕ) → Facts c h d j rest
    → (lets : Bool)
    → ((step : Step) → first_of d.steps ≡ Some step → is_let_in (answer_of step) ≡ lets)
    → is_entered (came_to j d.steps) ≡ (is_rover j && lets)
entered_as c h d waiting rest f lets so = quiet_entered c h d waiting rest f f.made (ap owed_among f.closed)
entered_as c h d (finished reply end) rest f lets so =
    quiet_entered c h d (finished reply end) rest f f.made (ap owed_among f.closed)
entered_as c h d (source terms body) rest f lets so =
    let j : Judged = source terms body in
    elim (source_made c terms.mount (frames_of terms.chunked body) (owed_among f.first)
    (first_answered c h d j rest f) f.made) [
      | inl given ↦ never_entered c h d j rest f _ given.steps_are refl
      | inr other ↦ never_entered c h d j rest f _ other.steps_are refl
    ]
entered_as c h d (rover terms tail) rest f lets so =
    let j : Judged = rover terms tail in
    elim (entry_made c terms tail (owed_among f.first) (first_answered c h d j rest f) f.made) [
      | inl entry ↦ rover_entered c h d terms tail rest f lets _ _ entry.steps_are so
      | inr other ↦ rover_entered c h d terms tail rest f lets _ _ other.steps_are so
    ]
