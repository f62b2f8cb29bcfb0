-- What the events of a script say of each connection of its run: how it opened, and that its text
-- is all its bytes while it goes on.
use Rattle.std.proofs.Common.{◌≡◌, ◌≢◌, ◌∙◌, ◌++◌, ℕ, Bool, true, false, cond, List, [], ◌∷◌, All, refl, sym, ap, subst, inl, inr, append_assoc, Option, None, Some}
use Rattle.std.specs.Prelude.{◌==◌, ◌&&◌, ◌||◌, nat_lt, is_none}
use Rattle.std.proofs.lemmas.Bool.{false≢true, cases_eq, cases_Bool, eq-eqb, ne_eqb}
use Rattle.std.proofs.lemmas.List.{append-nil}
use Rattle.std.proofs.lemmas.List.Elements.{All-head, All-tail, All-cons, All-nil, All-weaker}
use Rattle.session_script.specs.declared.Event.{Event}
use Rattle.session_script.specs.declared.Event.TheVariants as events
use Rattle.cast_config.specs.declared.config.Config.{Config}
use Rattle.session_model.specs.declared.ending.Ending.{Ending}
use Rattle.session_model.specs.declared.ending.Last.{Last}
use Rattle.session_model.specs.declared.ending.Last.TheVariants as lasts
use Rattle.session_model.specs.Headings.{Heading}
use Rattle.session_model.specs.Judged.{Opening, sends_head, relays, bare_source, bare_rover, Judged}
use Rattle.session_model.specs.Owed.{Happening, arrives, takes_turn, ends, owed}
use Rattle.session_model.specs.Endings.{goes_on}
use Rattle.session_model.specs.Reports.{opened_as, bytes_to}
use Rattle.session_model.specs.Reports as reports
use Rattle.session_model.specs.Run.{Histories, Connected, World, Moved, judged_of, with_text, makes, closed_if, moved, moved_if, is_concerned, happens_in, happens, placed_if, placed, is_opened, opened_if, fresh}
use Rattle.caster_replay.specs.Runs.{is_cut, IsKnown, AreKnown}
use Rattle.caster_replay.proofs.WorldHeadingLemmas.{or_later, opened-append, opened_stays, unless_cut, cut_stays, uncut_on, bytes-append}
use Rattle.caster_replay.proofs.WorldListLemmas.{moved_by, apart_moved, apart_first, none_later}

-- ---- one connection

-- an event says nothing of this number, but that it may open
abbrev pub IsSilent : ℕ → Event → Type 0
IsSilent n event = (bytes_to n (event ∷ []) ≡ []) × (is_cut n (event ∷ []) ≡ false)

pub none_counts : (cut : Bool) → unless_cut cut [] ≡ []
none_counts true = refl
none_counts false = refl

-- then its bytes are what they were
pub bytes_same : (n : ℕ) (list : List Event) (event : Event) → bytes_to n (event ∷ []) ≡ []
    → bytes_to n (list ++ event ∷ []) ≡ bytes_to n list
bytes_same n list event none =
    bytes-append n list (event ∷ [])
    ∙ ap (λ (l : List ℕ). bytes_to n list ++ unless_cut (is_cut n list) l) none
    ∙ ap (λ (l : List ℕ). bytes_to n list ++ l) (none_counts (is_cut n list))
    ∙ append-nil (bytes_to n list)

known_silent : (c : Config) (headings : ℕ → Heading) (list : List Event) (event : Event) (d : Connected)
    → IsSilent d.number event → IsKnown c headings list d → IsKnown c headings (list ++ event ∷ []) d
known_silent c headings list event d silent is = record {
  opened = opened_stays d.number d.opening list (event ∷ []) is.opened;
  rest = is.rest;
  begins = bytes_same d.number list event silent.0 ∙ is.begins;
  going = λ goes. ((is.going goes).0, uncut_on d.number list (event ∷ []) (is.going goes).1 ∙ silent.1);
  closed = λ there. cut_stays d.number list (event ∷ []) (is.closed there);
}

-- whatever comes when it is over
known_over : (c : Config) (headings : ℕ → Heading) (list : List Event) (event : Event) (d : Connected)
    → goes_on (judged_of c (headings d.number) d) d.steps d.closed ≡ false → IsKnown c headings list d
    → IsKnown c headings (list ++ event ∷ []) d
known_over c headings list event d over is =
    let extra : List ℕ = unless_cut (is_cut d.number list) (bytes_to d.number (event ∷ [])) in record {
      opened = opened_stays d.number d.opening list (event ∷ []) is.opened;
      rest = is.rest ++ extra;
      begins = bytes-append d.number list (event ∷ [])
          ∙ ap (λ (l : List ℕ). l ++ extra) is.begins ∙ append_assoc d.text is.rest extra;
      going = λ goes. absurd (false≢true (sym over ∙ goes));
      closed = λ there. cut_stays d.number list (event ∷ []) (is.closed there);
    }

-- ---- what happens to it

-- with all its bytes, and not closed
known_fresh : (c : Config) (headings : ℕ → Heading) (list : List Event) (d : Connected)
    → opened_as d.number list ≡ Some d.opening → bytes_to d.number list ≡ d.text → is_cut d.number list ≡ false
    → d.closed ≡ None → IsKnown c headings list d
known_fresh c headings list d opened bytes uncut none = record {
  opened = opened;
  rest = [];
  begins = bytes ∙ sym (append-nil d.text);
  going = λ goes. (refl, uncut);
  closed = λ there. absurd (false≢true (sym there ∙ ap (λ l. is_none l) none));
}

known_if : (c : Config) (headings : ℕ → Heading) (list : List Event) (end : Option Ending) (j : Judged) (m : Moved)
    → opened_as m.connection.number list ≡ Some m.connection.opening
    → bytes_to m.connection.number list ≡ m.connection.text → is_cut m.connection.number list ≡ false
    → m.connection.closed ≡ None → IsKnown c headings list (closed_if end c j m).connection
known_if c headings list None j m opened bytes uncut none = known_fresh c headings list _ opened bytes uncut none
known_if c headings list (Some end) j m opened bytes uncut none = known_fresh c headings list _ opened bytes uncut none

none_closed : (c : Config) (heading : Heading) (d : Connected)
    → goes_on (judged_of c heading d) d.steps d.closed ≡ true → d.closed ≡ None
none_closed c heading d goes = none_if d.closed _ goes
  where
    none_if : (closed : Option Last) (b : Bool) → (is_none closed && b) ≡ true → closed ≡ None
    none_if None b is = refl
    none_if (Some last) b is = absurd cc

-- the bytes that a happening brings, and whether it closes
abbrev pub bytes_of : Happening → List ℕ
bytes_of (arrives more) = more
bytes_of (takes_turn budget) = []
bytes_of (ends last) = []

abbrev pub is_end : Happening → Bool
is_end (arrives more) = false
is_end (takes_turn budget) = false
is_end (ends last) = true

-- the event is this happening to the number, and nothing to others
pub record Tells (event : Event) (number : ℕ) (what : Happening) : Type 0 where
  pub bytes : bytes_to number (event ∷ []) ≡ bytes_of what
  pub cut : is_cut number (event ∷ []) ≡ is_end what
  pub others : (n : ℕ) → number ≢ n → IsSilent n event
  pub unopened : (n : ℕ) → opened_as n (event ∷ []) ≡ None

known_moved : (c : Config) (headings : ℕ → Heading) (list : List Event) (event : Event) (what : Happening)
    (h : Histories)
    (d : Connected) → Tells event d.number what → IsKnown c headings list d
    → goes_on (judged_of c (headings d.number) d) d.steps d.closed ≡ true
    → IsKnown c headings (list ++ event ∷ []) (moved c (headings d.number) h d what).connection
known_moved c headings list event (arrives more) h d tells is goes =
    let open_now = is.going goes in
    let bytes : bytes_to d.number (list ++ event ∷ []) ≡ d.text ++ more =
    bytes-append d.number list (event ∷ [])
    ∙ ap (λ (b : Bool). bytes_to d.number list ++ unless_cut b (bytes_to d.number (event ∷ []))) open_now.1
    ∙ ap (λ (l : List ℕ). bytes_to d.number list ++ l) tells.bytes
    ∙ ap (λ (l : List ℕ). l ++ more) (is.begins ∙ ap (λ (l : List ℕ). d.text ++ l) open_now.0 ∙ append-nil d.text) in
    known_if c headings (list ++ event ∷ []) _ (judged_of c (headings d.number) (with_text d (d.text ++ more)))
    (makes c h (with_text d (d.text ++ more)) (owed c d.opening (headings d.number) d.text d.steps (arrives more)))
    (opened_stays d.number d.opening list (event ∷ []) is.opened) bytes
    (uncut_on d.number list (event ∷ []) open_now.1 ∙ tells.cut)
    (none_closed c (headings d.number) d goes)
known_moved c headings list event (takes_turn budget) h d tells is goes =
    let open_now = is.going goes in
    known_fresh c headings (list ++ event ∷ []) _
    (opened_stays d.number d.opening list (event ∷ []) is.opened)
    (bytes_same d.number list event tells.bytes ∙ is.begins ∙ ap (λ (l : List ℕ). d.text ++ l) open_now.0
    ∙ append-nil d.text)
    (uncut_on d.number list (event ∷ []) open_now.1 ∙ tells.cut)
    (none_closed c (headings d.number) d goes)
known_moved c headings list event (ends last) h d tells is goes = record {
  opened = opened_stays d.number d.opening list (event ∷ []) is.opened;
  rest = is.rest;
  begins = bytes_same d.number list event tells.bytes ∙ is.begins;
  going = λ goes. absurd (false≢true goes);
  closed = λ there. uncut_on d.number list (event ∷ []) (is.going goes).1 ∙ tells.cut;
}

known_event : (c : Config) (headings : ℕ → Heading) (list : List Event) (event : Event) (number : ℕ) (what : Happening)
    (h : Histories) (d : Connected) → Tells event number what → IsKnown c headings list d
    → IsKnown c headings (list ++ event ∷ []) (moved_by c headings number what h d).connection
known_event c headings list event number what h d tells is = elim (cases_eq number d.number) [
  | inr apart ↦
      subst (λ (m : Moved). IsKnown c headings (list ++ event ∷ []) m.connection)
      (sym (apart_moved c headings number what h d (λ e. apart (sym e))))
      (known_silent c headings list event d (tells.others d.number apart) is)
  | inl same ↦
      let here : (d.number == number) ≡ true = eq-eqb d.number number (sym same) in
      let its : Tells event d.number what = subst (λ (n : ℕ). Tells event n what) same tells in
      elim (cases_Bool (goes_on (judged_of c (headings d.number) d) d.steps d.closed)) [
        | inl goes ↦
            subst (λ (t : Bool). IsKnown c headings (list ++ event ∷ [])
            (moved_if t c (headings d.number) h d what).connection)
            (sym (ap (λ (t : Bool). t && goes_on (judged_of c (headings d.number) d) d.steps d.closed) here ∙ goes))
            (known_moved c headings list event what h d its is goes)
        | inr over ↦
            subst (λ (t : Bool). IsKnown c headings (list ++ event ∷ [])
            (moved_if t c (headings d.number) h d what).connection)
            (sym (ap (λ (t : Bool). t && goes_on (judged_of c (headings d.number) d) d.steps d.closed) here ∙ over))
            (known_over c headings list event d over is)
      ]
]

-- ---- all of them

known_in : (c : Config) (headings : ℕ → Heading) (list : List Event) (event : Event) (number : ℕ) (what : Happening)
    (h : Histories) (ds : List Connected) → Tells event number what → All (IsKnown c headings list) ds
    → All (IsKnown c headings (list ++ event ∷ [])) (happens_in c headings number what h ds).connections
known_in c headings list event number what h [] tells all = All-nil (IsKnown c headings (list ++ event ∷ []))
known_in c headings list event number what h (d ∷ ds) tells all =
    let m = moved_by c headings number what h d in
    All-cons (IsKnown c headings (list ++ event ∷ [])) m.connection _
    (known_event c headings list event number what h d tells (All-head (IsKnown c headings list) d ds all))
    (known_in c headings list event number what m.histories ds tells (All-tail (IsKnown c headings list) d ds all))

-- numbers stay
number_if : (end : Option Ending) (c : Config) (j : Judged) (m : Moved)
    → (closed_if end c j m).connection.number ≡ m.connection.number
number_if None c j m = refl
number_if (Some end) c j m = refl

number_moved : (c : Config) (heading : Heading) (h : Histories) (d : Connected) (what : Happening)
    → (moved c heading h d what).connection.number ≡ d.number
number_moved c heading h d (arrives more) =
    number_if _ c (judged_of c heading (with_text d (d.text ++ more)))
    (makes c h (with_text d (d.text ++ more)) (owed c d.opening heading d.text d.steps (arrives more)))
number_moved c heading h d (takes_turn budget) = refl
number_moved c heading h d (ends last) = refl

pub number_by : (concerned : Bool) (c : Config) (heading : Heading) (h : Histories) (d : Connected) (what : Happening)
    → (moved_if concerned c heading h d what).connection.number ≡ d.number
number_by true c heading h d what = number_moved c heading h d what
number_by false c heading h d what = refl

pub opened_same : (c : Config) (headings : ℕ → Heading) (n number : ℕ) (what : Happening) (h : Histories)
    (ds : List Connected)
    → is_opened n (happens_in c headings number what h ds).connections ≡ is_opened n ds
opened_same c headings n number what h [] = refl
opened_same c headings n number what h (d ∷ ds) =
    let m = moved_by c headings number what h d in
    ap (λ (k : ℕ). (k == n) || is_opened n (happens_in c headings number what m.histories ds).connections)
    (number_by (is_concerned c (headings d.number) number d) c (headings d.number) h d what)
    ∙ ap (λ (b : Bool). (d.number == n) || b) (opened_same c headings n number what m.histories ds)

pub known_happens : (c : Config) (headings : ℕ → Heading) (list : List Event) (event : Event) (number : ℕ)
    (what : Happening) (w : World) → Tells event number what → AreKnown c headings list w
    → AreKnown c headings (list ++ event ∷ []) (happens c headings w number what)
known_happens c headings list event number what w tells are = record {
  each = known_in c headings list event number what w.histories w.connections tells are.each;
  none = λ n none. opened-append n list (event ∷ [])
      ∙ ap (λ (o : Option Opening). or_later o (opened_as n (event ∷ [])))
      (are.none n (sym (opened_same c headings n number what w.histories w.connections) ∙ none))
      ∙ tells.unopened n;
}

-- ---- one opens

-- the event opens the number so, and says nothing else
pub record Starts (event : Event) (number : ℕ) (o : Opening) : Type 0 where
  pub here : opened_as number (event ∷ []) ≡ Some o
  pub apart : (n : ℕ) → number ≢ n → opened_as n (event ∷ []) ≡ None
  pub silent : (n : ℕ) → IsSilent n event

-- nothing happened to a number before it opened
abbrev pub IsClean : ℕ → List Event → Type 0
IsClean n list = opened_as n list ≡ None → (bytes_to n list ≡ []) × (is_cut n list ≡ false)

pub known_placed : (P : Connected → Type 0) (d : Connected) (ds : List Connected) → P d → All P ds → All P (placed d ds)
known_placed P d [] one all = All-cons P d [] one all
known_placed P d (e ∷ ds) one all =
    elim (nat_lt e.number d.number) as (λ b. All P (placed_if b d e ds (placed d ds))) [
      | true ↦ All-cons P e (placed d ds) (All-head P e ds all) (known_placed P d ds one (All-tail P e ds all))
      | false ↦ All-cons P d (e ∷ ds) one all
    ]

-- a number that stands nowhere after it was placed stood nowhere before, and is another
placed_none_if : (b : Bool) (n : ℕ) (d e : Connected) (ds : List Connected)
    → (is_opened n (placed d ds) ≡ false → (d.number ≢ n) × (is_opened n ds ≡ false))
    → is_opened n (placed_if b d e ds (placed d ds)) ≡ false → (d.number ≢ n) × (is_opened n (e ∷ ds) ≡ false)
placed_none_if true n d e ds behind none =
    let rest = behind (none_later n e (placed d ds) none) in
    (rest.0, ap (λ (b : Bool). b || is_opened n ds) (ne_eqb e.number n (apart_first n e (placed d ds) none)) ∙ rest.1)
placed_none_if false n d e ds behind none = (apart_first n d (e ∷ ds) none, none_later n d (e ∷ ds) none)

placed_none : (n : ℕ) (d : Connected) (ds : List Connected) → is_opened n (placed d ds) ≡ false
    → (d.number ≢ n) × (is_opened n ds ≡ false)
placed_none n d [] none = (apart_first n d [] none, refl)
placed_none n d (e ∷ ds) none = placed_none_if (nat_lt e.number d.number) n d e ds (placed_none n d ds) none

known_new : (c : Config) (headings : ℕ → Heading) (list : List Event) (event : Event) (number : ℕ) (o : Opening)
    (h : Histories) → Starts event number o → IsClean number list → opened_as number list ≡ None
    → IsKnown c headings (list ++ event ∷ []) (moved c (headings number) h (fresh number o) (arrives [])).connection
known_new c headings list event number o h starts clean none =
    known_if c headings (list ++ event ∷ []) _ (judged_of c (headings number) (with_text (fresh number o) []))
    (makes c h (with_text (fresh number o) []) (owed c o (headings number) [] [] (arrives [])))
    (opened-append number list (event ∷ []) ∙ ap (λ (x : Option Opening). or_later x (opened_as number (event ∷ [])))
    none
    ∙ starts.here)
    (bytes_same number list event (starts.silent number).0 ∙ (clean none).0)
    (uncut_on number list (event ∷ []) (clean none).1 ∙ (starts.silent number).1)
    refl

pub known_opened : (known : Bool) (c : Config) (headings : ℕ → Heading) (list : List Event) (event : Event) (number : ℕ)
    (o : Opening) (w : World) → is_opened number w.connections ≡ known
    → Starts event number o → IsClean number list → AreKnown c headings list w
    → AreKnown c headings (list ++ event ∷ [])
    (opened_if known w (moved c (headings number) w.histories (fresh number o) (arrives [])))
known_opened true c headings list event number o w there starts clean are = record {
  each = All-weaker (IsKnown c headings list) (IsKnown c headings (list ++ event ∷ []))
      (λ d is. known_silent c headings list event d (starts.silent d.number) is) w.connections are.each;
  none = λ n none. opened-append n list (event ∷ [])
      ∙ ap (λ (x : Option Opening). or_later x (opened_as n (event ∷ []))) (are.none n none)
      ∙ starts.apart n (λ e. absurd (false≢true
      (sym none ∙ ap (λ (k : ℕ). is_opened k w.connections) (sym e) ∙ there)));
}
known_opened false c headings list event number o w there starts clean are =
    let m = moved c (headings number) w.histories (fresh number o) (arrives []) in record {
      each = known_placed (IsKnown c headings (list ++ event ∷ [])) m.connection w.connections
          (known_new c headings list event number o w.histories starts clean (are.none number there))
          (All-weaker (IsKnown c headings list) (IsKnown c headings (list ++ event ∷ []))
          (λ d is. known_silent c headings list event d (starts.silent d.number) is) w.connections are.each);
      none = λ n none.
          let apart = placed_none n m.connection w.connections none in
          let same : m.connection.number ≡ number =
          number_moved c (headings number) w.histories (fresh number o) (arrives []) in
          opened-append n list (event ∷ [])
          ∙ ap (λ (x : Option Opening). or_later x (opened_as n (event ∷ []))) (are.none n apart.1)
          ∙ starts.apart n (λ e. apart.0 (same ∙ e));
    }

-- ---- the events

abbrev opened_so : Bool → Opening → Option Opening → Option Opening
opened_so here o later = reports.opened_if here o later

other_bytes : (k n : ℕ) (bytes : List ℕ) → k ≢ n → bytes_to n (events.In k bytes ∷ []) ≡ []
other_bytes k n bytes apart = ap (λ (b : Bool). cond b (bytes ++ []) []) (ne_eqb k n apart)

pub tells_in : (k : ℕ) (bytes : List ℕ) → Tells (events.In k bytes) k (arrives bytes)
tells_in k bytes = record {
  bytes = ap (λ (b : Bool). cond b (bytes ++ []) []) (eq-eqb k k refl) ∙ append-nil bytes;
  cut = refl;
  others = λ n apart. (other_bytes k n bytes apart, refl);
  unopened = λ n. refl;
}

pub tells_turn : (k budget : ℕ) → Tells (events.Turn k budget) k (takes_turn budget)
tells_turn k budget =
    record { bytes = refl; cut = refl; others = λ n apart. (refl, refl); unopened = λ n. refl }

none_either : (b : Bool) → cond {A = List ℕ} b [] [] ≡ []
none_either true = refl
none_either false = refl

pub tells_break : (k : ℕ) → Tells (events.Break k) k (ends lasts.ReadFault)
tells_break k = record {
  bytes = none_either (k == k);
  cut = ap (λ (b : Bool). cond b true false) (eq-eqb k k refl);
  others = λ n apart. (none_either (k == n), ap (λ (b : Bool). cond b true false) (ne_eqb k n apart));
  unopened = λ n. refl;
}

pub tells_end : (k : ℕ) → Tells (events.End k) k (ends lasts.End)
tells_end k = record {
  bytes = none_either (k == k);
  cut = ap (λ (b : Bool). cond b true false) (eq-eqb k k refl);
  others = λ n apart. (none_either (k == n), ap (λ (b : Bool). cond b true false) (ne_eqb k n apart));
  unopened = λ n. refl;
}

pub starts_open : (k : ℕ) → Starts (events.Open k) k sends_head
starts_open k = record {
  here = ap (λ (b : Bool). opened_so b sends_head None) (eq-eqb k k refl);
  apart = λ n apart. ap (λ (b : Bool). opened_so b sends_head None) (ne_eqb k n apart);
  silent = λ n. (refl, refl);
}

pub starts_relay : (k relay : ℕ) → Starts (events.Relay k relay) k (relays relay)
starts_relay k relay = record {
  here = ap (λ (b : Bool). opened_so b (relays relay) None) (eq-eqb k k refl);
  apart = λ n apart. ap (λ (b : Bool). opened_so b (relays relay) None) (ne_eqb k n apart);
  silent = λ n. (refl, refl);
}

pub starts_source : (k : ℕ) (mount : List ℕ) → Starts (events.Source k mount) k (bare_source mount)
starts_source k mount = record {
  here = ap (λ (b : Bool). opened_so b (bare_source mount) None) (eq-eqb k k refl);
  apart = λ n apart. ap (λ (b : Bool). opened_so b (bare_source mount) None) (ne_eqb k n apart);
  silent = λ n. (refl, refl);
}

pub starts_rover : (k : ℕ) (mount : List ℕ) → Starts (events.Rover k mount) k (bare_rover mount)
starts_rover k mount = record {
  here = ap (λ (b : Bool). opened_so b (bare_rover mount) None) (eq-eqb k k refl);
  apart = λ n apart. ap (λ (b : Bool). opened_so b (bare_rover mount) None) (ne_eqb k n apart);
  silent = λ n. (refl, refl);
}
