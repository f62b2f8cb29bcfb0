-- What each event of a run sends all connections.
use Rattle.std.proofs.Common.{◌≡◌, ◌≢◌, ◌∙◌, ℕ, Bool, true, false, List, [], ◌∷◌, All, inl, inr, refl, sym, ap, subst, eq-eqb}
use Rattle.std.specs.Prelude.{◌==◌, ◌&&◌, ◌||◌}
use Rattle.std.proofs.lemmas.Bool.{cases_eq}
use Rattle.std.proofs.lemmas.List.{append-nil}
use Rattle.std.proofs.lemmas.List.Elements.{All-nil}
use Rattle.turn_log.specs.History.{History}
use Rattle.mount_ring.specs.declared.call.RingCall.{RingCall}
use Rattle.mount_ring.specs.Places.{published_by}
use Rattle.mount_ring.proofs.HistoryLemmas.{published-append}
use Rattle.rover_cursor.specs.Told.{published_in}
use Rattle.session_calls.specs.Rings.{history_at}
use Rattle.rover_session.proofs.SegmentLemmas.{Extends}
use Rattle.cast_config.specs.declared.config.Config.{Config}
use Rattle.cast_config.specs.Kept.{KeepsRules}
use Rattle.session_model.specs.declared.ending.Last.TheVariants as lasts
use Rattle.session_model.specs.Headings.{Heading}
use Rattle.session_model.specs.Judged.{Opening, sends_head, waiting, judged}
use Rattle.session_model.specs.Owed.{Happening, arrives, takes_turn, ends}
use Rattle.session_model.specs.Endings.{goes_on}
use Rattle.session_model.specs.Run.{Histories, Connected, World, Moved, judged_of, moved, moved_if, is_concerned, happens, is_opened, opened_if, fresh, opens, closes}
use Rattle.session_model.proofs.KeepLemmas.{Later}
use Rattle.session_model.proofs.WellLemmas.{IsSoundOf, IsWell, happens_stays}
use Rattle.session_model.proofs.WellLemmas as well
use Rattle.caster_replay.specs.Runs.{IsIncreasing}
use Rattle.caster_replay.proofs.WorldKnownLemmas.{number_by, opened_same, known_placed}
use Rattle.caster_replay.proofs.WorldListLemmas.{moved_by}
use Rattle.caster_warm.specs.Warm.{greeting_for}
use Rattle.run_promise.proofs.RunLemmas.{IsStood, IsRunning, placed_opened, new_walked, happens_extends, happens_runs}
use Rattle.warm_promise.proofs.SentLemmas.{none_more}
use Rattle.warm_promise.proofs.MoveLemmas.{SentOf, plain_of, greeting_to, with_more, stays_so, sent_on, end_sent}
use Rattle.warm_promise.proofs.OpenLemmas.{opened_sent}
use Rattle.warm_promise.proofs.EachLemmas.{all_both, all_from, told_at, told_none, IsTold, told_each, greeting_at, greets_none, IsGreetedAt, greeted_each, each_happens, IsExtra, own_if}

extends_later : (old now : List (History RingCall)) → Extends old now → Later old now
extends_later old now extends mount =
    let more = extends mount in
    (published_by more.0, ap published_in more.1 ∙ published-append (history_at old mount) more.0)

-- with these bytes for each number: those of the connections, and none for the others
pub record AreSent (c : Config) (headings : ℕ → Heading) (w : World) (bytes : ℕ → List ℕ) : Type 0 where
  pub each : All (λ (d : Connected). SentOf c (headings d.number) w.histories d (bytes d.number)) w.connections
  pub none : (n : ℕ) → is_opened n w.connections ≡ false → bytes n ≡ []

-- and then this more
abbrev pub sent_next : Config → (ℕ → Heading) → World → World → (ℕ → List ℕ) → (ℕ → List ℕ) → ℕ → List ℕ
sent_next c headings w next bytes extra n =
    with_more (bytes n) (told_at c headings w.histories n w.connections)
    (told_at c headings next.histories n next.connections) (extra n)

none_next : (c : Config) (headings : ℕ → Heading) (w next : World) (bytes extra : ℕ → List ℕ) (n : ℕ)
    → is_opened n w.connections ≡ false → is_opened n next.connections ≡ false → bytes n ≡ [] → extra n ≡ []
    → sent_next c headings w next bytes extra n ≡ []
none_next c headings w next bytes extra n before after none no_extra =
    ap (λ (l : List ℕ). with_more (bytes n) (told_at c headings w.histories n w.connections)
    (told_at c headings next.histories n next.connections) l) no_extra
    ∙ none_more (bytes n) (told_at c headings w.histories n w.connections)
    (told_at c headings next.histories n next.connections)
    (told_none c headings next.histories n next.connections after
    ∙ sym (told_none c headings w.histories n w.connections before))
    ∙ none

-- ---- another's event

other_sent : (c : Config) (headings : ℕ → Heading) (w next : World) (bytes extra : ℕ → List ℕ) (d : Connected)
    → Later w.histories.rings next.histories.rings → IsSoundOf c w.histories.rings d
    → SentOf c (headings d.number) w.histories d (bytes d.number) → IsTold c headings w.histories w.connections d
    → extra d.number ≡ [] → IsTold c headings next.histories next.connections d
    → SentOf c (headings d.number) next.histories d (sent_next c headings w next bytes extra d.number)
other_sent c headings w next bytes extra d later sound sent told none told_next =
    let n = d.number in
    let before = told_at c headings w.histories n w.connections in
    let after = told_at c headings next.histories n next.connections in
    let same : after ≡ before = told_next ∙ stays_so c (headings n) w.histories next.histories d later sound ∙ sym told in
    subst (SentOf c (headings n) next.histories d)
    (sym (ap (with_more (bytes n) before after) none ∙ none_more (bytes n) before after same))
    (sent_on c (headings n) w.histories next.histories d (bytes n) later sound sent)

-- ---- what happens to a number

module _ (c : Config) (cap : ℕ) (headings : ℕ → Heading) (w : World) (bytes extra : ℕ → List ℕ) (number : ℕ)
    (what : Happening) (kept : KeepsRules cap c) (run : IsRunning c headings w) (fine : IsWell c w)
    (sent : AreSent c headings w bytes) where
  abbrev next : World
  next = happens c headings w number what

  later : Later w.histories.rings next.histories.rings
  later = extends_later w.histories.rings next.histories.rings (happens_extends c cap headings w number what kept run)

  -- what is known of each before
  abbrev IsBefore : Connected → Type 0
  IsBefore d =
      (SentOf c (headings d.number) w.histories d (bytes d.number) × IsStood c headings w.histories d)
      × (IsSoundOf c w.histories.rings d × IsTold c headings w.histories w.connections d)

  before_each : All IsBefore w.connections
  before_each =
      all_both (λ d. SentOf c (headings d.number) w.histories d (bytes d.number) × IsStood c headings w.histories d)
      (λ d. IsSoundOf c w.histories.rings d × IsTold c headings w.histories w.connections d) w.connections
      (all_both (λ d. SentOf c (headings d.number) w.histories d (bytes d.number)) (IsStood c headings w.histories)
      w.connections sent.each run.each)
      (all_both (IsSoundOf c w.histories.rings) (IsTold c headings w.histories w.connections) w.connections fine.sound
      (told_each c headings w.histories w.connections run.order))

  -- and of each behind it, by its number and by the histories
  abbrev IsBehind : Connected → ℕ → Histories → Type 0
  IsBehind e n h =
      told_at c headings h n next.connections ≡ plain_of c (headings n) h e
      → greeting_at c headings w.histories h n next.connections ≡ greeting_to c (headings n) w.histories h e
      → SentOf c (headings n) h e
      (with_more (bytes n) (told_at c headings w.histories n w.connections) (told_at c headings h n next.connections)
      (extra n))

  own_behind : IsExtra what (extra number) (greeting_at c headings w.histories next.histories number next.connections)
      → (d : Connected) → d.number ≡ number → IsBefore d
      → next.histories ≡ (moved_by c headings number what w.histories d).histories
      → IsBehind (moved_by c headings number what w.histories d).connection d.number
      (moved_by c headings number what w.histories d).histories
  own_behind more d same is histories told greeted =
      let n = d.number in
      let heading = headings n in
      let m = moved_by c headings number what w.histories d in
      let goes = goes_on (judged_of c heading d) d.steps d.closed in
      let here : IsExtra what (extra n) (greeting_at c headings w.histories m.histories n next.connections) =
      subst (λ (h : Histories). IsExtra what (extra n) (greeting_at c headings w.histories h n next.connections)) histories
      (subst (λ (k : ℕ). IsExtra what (extra k) (greeting_at c headings w.histories next.histories k next.connections))
      (sym same) more) in
      subst (λ (l : List ℕ). SentOf c heading m.histories m.connection
      (with_more (bytes n) (told_at c headings w.histories n w.connections) l (extra n))) (sym told)
      (subst (λ (l : List ℕ). SentOf c heading m.histories m.connection
      (with_more (bytes n) l (plain_of c heading m.histories m.connection) (extra n))) (sym is.1.1)
      (own_if c cap heading w.histories d (bytes n) (extra n) kept is.0.1 fine.frames is.1.0 is.0.0
      (is_concerned c heading number d) what
      (ap (λ (b : Bool). b && goes) (eq-eqb n number same))
      (subst (IsExtra what (extra n)) greeted here)))

  abbrev IsNext : Connected → Type 0
  IsNext e = IsBehind e e.number next.histories

  own_next : IsExtra what (extra number) (greeting_at c headings w.histories next.histories number next.connections)
      → (d : Connected) → d.number ≡ number → IsBefore d
      → next.histories ≡ (moved_by c headings number what w.histories d).histories
      → IsNext (moved_by c headings number what w.histories d).connection
  own_next more d same is histories =
      let m = moved_by c headings number what w.histories d in
      subst (λ (k : ℕ). IsBehind m.connection k next.histories)
      (sym (number_by (is_concerned c (headings d.number) number d) c (headings d.number) w.histories d what))
      (subst (IsBehind m.connection d.number) (sym histories) (own_behind more d same is histories))

  other_next : ((n : ℕ) → n ≢ number → extra n ≡ []) → (d : Connected) → d.number ≢ number → IsBefore d → IsNext d
  other_next none d apart is told greeted =
      other_sent c headings w next bytes extra d later is.1.0 is.0.0 is.1.1 (none d.number apart) told

  none_extra : IsExtra what (extra number) (greeting_at c headings w.histories next.histories number next.connections)
      → is_opened number next.connections ≡ false → extra number ≡ []
  none_extra more none = of_none what (extra number) more
    where
      of_none : (what : Happening) (extra : List ℕ)
          → IsExtra what extra (greeting_at c headings w.histories next.histories number next.connections) → extra ≡ []
      of_none (arrives text) extra is =
          is ∙ ap (greeting_for c w.histories next.histories)
          (greets_none c headings w.histories next.histories number next.connections none)
      of_none (takes_turn budget) extra is = is
      of_none (ends last) extra is = is

  pub happens_sent : IsExtra what (extra number) (greeting_at c headings w.histories next.histories number next.connections)
      → ((n : ℕ) → n ≢ number → extra n ≡ []) → AreSent c headings next (sent_next c headings w next bytes extra)
  happens_sent more others =
      let order = (happens_runs c cap headings w number what kept run).order in
      let all = each_happens c headings number what w.histories IsBefore IsNext w.connections run.order before_each
      (own_next more) (other_next others) in
      record {
        each = all_from (λ e. IsNext e × (IsTold c headings next.histories next.connections e
            × IsGreetedAt c headings w.histories next.histories next.connections e))
            (λ e. SentOf c (headings e.number) next.histories e (sent_next c headings w next bytes extra e.number))
            next.connections (λ e is. is.0 is.1.0 is.1.1)
            (all_both IsNext (λ e. IsTold c headings next.histories next.connections e
            × IsGreetedAt c headings w.histories next.histories next.connections e) next.connections all
            (all_both (IsTold c headings next.histories next.connections)
            (IsGreetedAt c headings w.histories next.histories next.connections) next.connections
            (told_each c headings next.histories next.connections order)
            (greeted_each c headings w.histories next.histories next.connections order)));
        none = λ n none.
            let before = sym (opened_same c headings n number what w.histories w.connections) ∙ none in
            none_next c headings w next bytes extra n before none (sent.none n before)
            (elim (cases_eq n number) [
              | inl same ↦
                  subst (λ (k : ℕ). extra k ≡ []) (sym same)
                  (none_extra more (subst (λ (k : ℕ). is_opened k next.connections ≡ false) same none))
              | inr apart ↦ others n apart
            ]);
      }

  -- ---- the end of each

  end_one : (d : Connected) → d.number ≡ number → IsBefore d → (concerned : Bool) (last : _)
      → SentOf c (headings d.number)
      (moved_if concerned c (headings d.number) w.histories d (ends last)).histories
      (moved_if concerned c (headings d.number) w.histories d (ends last)).connection (bytes d.number)
  end_one d same is true last =
      end_sent c (headings d.number) w.histories d last fine.frames is.1.0 (bytes d.number) is.0.0
  end_one d same is false last = is.0.0

-- one after the other comes to its end, and is sent no more
pub ends_sent : (c : Config) (cap : ℕ) (headings : ℕ → Heading) (w : World) (bytes : ℕ → List ℕ) (number : ℕ)
    → KeepsRules cap c → IsRunning c headings w → IsWell c w → AreSent c headings w bytes
    → AreSent c headings (happens c headings w number (ends lasts.End)) bytes
ends_sent c cap headings w bytes number kept run fine sent =
    let what : Happening = ends lasts.End in
    let next = happens c headings w number what in
    record {
      each = each_happens c headings number what w.histories
          (IsBefore c cap headings w bytes (λ n. []) number what kept run fine sent)
          (λ e. SentOf c (headings e.number) next.histories e (bytes e.number)) w.connections run.order
          (before_each c cap headings w bytes (λ n. []) number what kept run fine sent)
          (λ d same is histories.
          let m = moved_by c headings number what w.histories d in
          subst (λ (k : ℕ). SentOf c (headings k) next.histories m.connection (bytes k))
          (sym (number_by (is_concerned c (headings d.number) number d) c (headings d.number) w.histories d what))
          (subst (λ (h : Histories). SentOf c (headings d.number) h m.connection (bytes d.number)) (sym histories)
          (end_one c cap headings w bytes (λ n. []) number what kept run fine sent d same is
          (is_concerned c (headings d.number) number d) lasts.End)))
          (λ d apart is.
          sent_on c (headings d.number) w.histories next.histories d (bytes d.number)
          (later c cap headings w bytes (λ n. []) number what kept run fine sent) is.1.0 is.0.0);
      none = λ n none.
          sent.none n (sym (opened_same c headings n number what w.histories w.connections) ∙ none);
    }

pub closes_sent : (c : Config) (cap : ℕ) (headings : ℕ → Heading) (w : World) (bytes : ℕ → List ℕ) (numbers : List ℕ)
    → KeepsRules cap c → IsRunning c headings w → IsWell c w → AreSent c headings w bytes
    → AreSent c headings (closes c headings w numbers) bytes
closes_sent c cap headings w bytes [] kept run fine sent = sent
closes_sent c cap headings w bytes (number ∷ more) kept run fine sent =
    closes_sent c cap headings (happens c headings w number (ends lasts.End)) bytes more kept
    (happens_runs c cap headings w number (ends lasts.End) kept run)
    (happens_stays c headings w number (ends lasts.End) fine)
    (ends_sent c cap headings w bytes number kept run fine sent)

-- ---- one opens

module _ (c : Config) (cap : ℕ) (headings : ℕ → Heading) (w : World) (bytes : ℕ → List ℕ) (number : ℕ) (o : Opening)
    (kept : KeepsRules cap c) (run : IsRunning c headings w) (fine : IsWell c w) (sent : AreSent c headings w bytes)
  where
    abbrev m : Moved
    m = moved c (headings number) w.histories (fresh number o) (arrives [])

    abbrev none_extra_at : ℕ → List ℕ
    none_extra_at n = []

    abbrev IsOpened : Bool → Type 0
    IsOpened known =
        AreSent c headings (opened_if known w m) (sent_next c headings w (opened_if known w m) bytes none_extra_at)

    same_sent : IsOpened true
    same_sent =
        let same : (n : ℕ) → sent_next c headings w w bytes none_extra_at n ≡ bytes n =
        λ n. none_more (bytes n) (told_at c headings w.histories n w.connections)
        (told_at c headings w.histories n w.connections) refl in
        record {
          each = all_from (λ d. SentOf c (headings d.number) w.histories d (bytes d.number))
              (λ d. SentOf c (headings d.number) w.histories d (sent_next c headings w w bytes none_extra_at d.number))
              w.connections
              (λ d one. subst (SentOf c (headings d.number) w.histories d) (sym (same d.number)) one) sent.each;
          none = λ n none. same n ∙ sent.none n none;
        }

    abbrev after : World
    after = opened_if false w m

    abbrev IsNow : Connected → ℕ → Type 0
    IsNow e n =
        told_at c headings after.histories n after.connections ≡ plain_of c (headings n) after.histories e
        → SentOf c (headings n) after.histories e (sent_next c headings w after bytes none_extra_at n)

    first_now : is_opened number w.connections ≡ false → (o ≡ sends_head → judged c o (headings number) [] ≡ waiting)
        → IsNow m.connection number
    first_now new waits told =
        let all = told_at c headings after.histories number after.connections in
        subst (SentOf c (headings number) m.histories m.connection)
        (sym (ap (λ (l : List ℕ). with_more l (told_at c headings w.histories number w.connections) all [])
        (sent.none number new)
        ∙ ap (λ (l : List ℕ). with_more [] l all []) (told_none c headings w.histories number w.connections new)
        ∙ append-nil all ∙ told))
        (opened_sent c cap (headings number) w.histories number o kept (new_walked c headings w number new run) waits)

    opened_later : Later w.histories.rings after.histories.rings
    opened_later =
        (well.moved_moves c (headings number) w.histories (fresh number o) (arrives []) fine.frames (All-nil _)).later

    others_now : All (λ e. IsNow e e.number) w.connections
    others_now =
        all_from (λ d. SentOf c (headings d.number) w.histories d (bytes d.number)
        × (IsSoundOf c w.histories.rings d × IsTold c headings w.histories w.connections d)) (λ e. IsNow e e.number)
        w.connections
        (λ d is told. other_sent c headings w after bytes none_extra_at d opened_later is.1.0 is.0 is.1.1 refl told)
        (all_both (λ d. SentOf c (headings d.number) w.histories d (bytes d.number))
        (λ d. IsSoundOf c w.histories.rings d × IsTold c headings w.histories w.connections d) w.connections sent.each
        (all_both (IsSoundOf c w.histories.rings) (IsTold c headings w.histories w.connections) w.connections fine.sound
        (told_each c headings w.histories w.connections run.order)))

    new_sent : is_opened number w.connections ≡ false → (o ≡ sends_head → judged c o (headings number) [] ≡ waiting)
        → IsIncreasing after.connections → IsOpened false
    new_sent new waits order =
        let all = known_placed (λ e. IsNow e e.number) m.connection w.connections
        (subst (IsNow m.connection)
        (sym (number_by true c (headings number) w.histories (fresh number o) (arrives []))) (first_now new waits))
        others_now in
        record {
          each = all_from (λ e. IsNow e e.number × IsTold c headings after.histories after.connections e)
              (λ e. SentOf c (headings e.number) after.histories e
              (sent_next c headings w after bytes none_extra_at e.number)) after.connections (λ e is. is.0 is.1)
              (all_both (λ e. IsNow e e.number) (IsTold c headings after.histories after.connections) after.connections all
              (told_each c headings after.histories after.connections order));
          none = λ n none.
              let before = rest_not (m.connection.number == n) (is_opened n w.connections)
              (sym (placed_opened n m.connection w.connections) ∙ none) in
              none_next c headings w after bytes none_extra_at n before none (sent.none n before) refl;
        }
      where
        rest_not : (a b : Bool) → (a || b) ≡ false → b ≡ false
        rest_not true b none = absurd cc
        rest_not false b none = none

    by_known : (known : Bool) → is_opened number w.connections ≡ known
        → (known ≡ false → o ≡ sends_head → judged c o (headings number) [] ≡ waiting)
        → IsIncreasing (opened_if known w m).connections → IsOpened known
    by_known true is waits order = same_sent
    by_known false is waits order = new_sent is (waits refl) order

    pub opens_sent : (is_opened number w.connections ≡ false → o ≡ sends_head → judged c o (headings number) [] ≡ waiting)
        → IsIncreasing (opens c headings w number o).connections
        → AreSent c headings (opens c headings w number o)
        (sent_next c headings w (opens c headings w number o) bytes none_extra_at)
    opens_sent waits order = by_known (is_opened number w.connections) refl waits order
