-- All connections of a recorded run, each with what is kept of it, while things happen to one of
-- them after the other.
use Rattle.std.proofs.Common.{◌≡◌, ◌≢◌, ◌∙◌, ◌<◌, ◌&&◌, ℕ, zero, suc, Bool, true, false, List, [], ◌∷◌, length, map, get_or, set, All, refl, sym, ap, subst, arith}
use Rattle.std.specs.Prelude.{nat_lt, insert}
use Rattle.std.specs.List.{prefix_len}
use Rattle.std.proofs.lemmas.Bool.{eq-eqb, ltb-true, ltb-false}
use Rattle.std.proofs.lemmas.List.{set-get_or}
use Rattle.std.proofs.lemmas.List.Elements.{All-head, All-tail}
use Rattle.cast_config.specs.declared.config.Config.{Config}
use Rattle.session_model.specs.declared.report.Connection.{Connection}
use Rattle.session_model.specs.Headings.{Heading}
use Rattle.session_model.specs.Judged.{Opening}
use Rattle.session_model.specs.Owed.{Happening, arrives}
use Rattle.session_model.specs.Endings.{goes_on}
use Rattle.session_model.specs.Reports.{told_of}
use Rattle.session_model.specs.Run.{Histories, Connected, World, Moved, judged_of, moved, moved_if, is_concerned, happens_in, happens, placed_if, placed, is_opened, opened_if, opens, fresh}
use Rattle.session_model.specs.Called.{Called, OthersCalled}
use Rattle.session_model.proofs.KeepLemmas.{Later}
use Rattle.session_model.proofs.WellLemmas.{IsSoundOf, IsWell, happens_stays, opens_stays}
use Rattle.caster_replay.specs.Lives.{IsKept, Live, IsLive, place_of, connection_of, IsToldBy, AreTold}
use Rattle.caster_replay.specs.Runs.{AreAbove, IsIncreasing, Pairs}
use Rattle.caster_replay.specs.declared.run_connection.State.{State}
use Rattle.caster_replay.specs.declared.run_connection.State.TheVariants.{Open, Closed}
use Rattle.caster_replay.proofs.WorldLaterLemmas.{called_later, called_others}
use Rattle.caster_replay.proofs.WorldListLemmas.{above_less, moved_by, happens_nowhere, happens_at, before, placed_insert, pairs_place, pairs_set, pairs_insert, none_later, apart_first}
use Rattle.caster_replay.proofs.WorldStepLemmas.{going_on, over_on, over_told}
use Rattle.caster_replay.proofs.WorldEventLemmas.{Becomes}

-- ---- what a run keeps of its connections

-- the run so far, where its connections have these headings: what is kept of them, and the
-- histories
pub record IsRunAt (c : Config) (headings : ℕ → Heading) (w : World) (lives : List Live) (now : Histories)
    : Type 0 where
  pub histories : w.histories ≡ now
  pub order : IsIncreasing w.connections
  pub well : IsWell c w
  pub each : Pairs (IsLive c headings now) w.connections lives

-- ---- calls of another connection

kept_other : (c : Config) (heading : Heading) (old now : Histories) (d : Connected) (state : State) (bytes : List ℕ)
    → OthersCalled old now d.number → Later old.rings now.rings → IsSoundOf c old.rings d
    → IsKept c heading old d state bytes → IsKept c heading now d state bytes
kept_other c heading old now d (Open session) bytes others later sound is =
    going_on c heading old now d session bytes others later sound is
kept_other c heading old now d (Closed receipt) bytes others later sound is =
    over_on c heading old now d receipt bytes later sound is

-- it is kept of a connection whose segments are sound
abbrev IsSoundLive : Config → (ℕ → Heading) → Histories → Connected → Live → Type 0
IsSoundLive c headings now d live = IsSoundOf c now.rings d × IsLive c headings now d live

pairs_with : {L : Type 0} (P : Connected → Type 0) (R : Connected → L → Type 0) (ds : List Connected) (kept : List L)
    → All P ds → Pairs R ds kept → Pairs (λ d l. P d × R d l) ds kept
pairs_with P R [] [] all pairs = tt
pairs_with P R [] (kept ∷ more) all pairs = absurd pairs
pairs_with P R (d ∷ ds) [] all pairs = absurd pairs
pairs_with P R (d ∷ ds) (kept ∷ more) all pairs =
    ((All-head P d ds all, pairs.0), pairs_with P R ds more (All-tail P d ds all) pairs.1)

live_other : (c : Config) (headings : ℕ → Heading) (old now : Histories) (number : ℕ)
    → ((me : ℕ) → number ≢ me → OthersCalled old now me) → Later old.rings now.rings
    → (d : Connected) (live : Live) → d.number ≢ number → IsSoundLive c headings old d live
    → IsLive c headings now d live
live_other c headings old now number others later d live apart is = (
  is.1.0,
  kept_other c (headings d.number) old now d live.state live.bytes (others d.number (λ e. apart (sym e))) later is.0
      is.1.1,
)

sound_lives : (c : Config) (headings : ℕ → Heading) (w : World) (lives : List Live) (now : Histories)
    → IsRunAt c headings w lives now → Pairs (IsSoundLive c headings now) w.connections lives
sound_lives c headings w lives now run =
    pairs_with (IsSoundOf c now.rings) (IsLive c headings now) w.connections lives
    (subst (λ (h : Histories). All (IsSoundOf c h.rings) w.connections) run.histories run.well.sound) run.each

-- ---- the order

above_set : (number : ℕ) (ds : List Connected) (at : ℕ) (x new : Connected) → new.number ≡ (get_or ds at x).number
    → AreAbove number ds → AreAbove number (set ds at new)
above_set number [] at x new same above = tt
above_set number (d ∷ ds) zero x new same above = (subst (λ (n : ℕ). number < n) (sym same) above.0, above.1)
above_set number (d ∷ ds) (suc at) x new same above = (above.0, above_set number ds at x new same above.1)

increasing_set : (ds : List Connected) (at : ℕ) (x new : Connected) → new.number ≡ (get_or ds at x).number
    → IsIncreasing ds → IsIncreasing (set ds at new)
increasing_set [] at x new same order = tt
increasing_set (d ∷ ds) zero x new same order = (subst (λ (n : ℕ). AreAbove n ds) (sym same) order.0, order.1)
increasing_set (d ∷ ds) (suc at) x new same order =
    (above_set d.number ds at x new same order.0, increasing_set ds at x new same order.1)

above_placed : (number : ℕ) (d : Connected) (ds : List Connected) → number < d.number → AreAbove number ds
    → AreAbove number (placed d ds)
above_placed number d [] below above = (below, tt)
above_placed number d (e ∷ ds) below above =
    elim (nat_lt e.number d.number) as (λ b. AreAbove number (placed_if b d e ds (placed d ds))) [
      | true ↦ (above.0, above_placed number d ds below above.1)
      | false ↦ (below, above)
    ]

increasing_if : (d e : Connected) (ds : List Connected) (test : Bool) → nat_lt e.number d.number ≡ test
    → e.number ≢ d.number → IsIncreasing (e ∷ ds) → IsIncreasing (placed d ds)
    → IsIncreasing (placed_if test d e ds (placed d ds))
increasing_if d e ds true is apart order behind =
    (above_placed e.number d ds (ltb-true e.number d.number is) order.0, behind)
increasing_if d e ds false is apart order behind =
    let below : d.number < e.number = omega (
      arith,
      ltb-false e.number d.number is,
      λ (q : e.number ≡ d.number). apart
          q,
    ) in
    ((below, above_less d.number e.number ds (omega (arith, below)) order.0), order)

pub increasing_placed : (d : Connected) (ds : List Connected) → is_opened d.number ds ≡ false → IsIncreasing ds
    → IsIncreasing (placed d ds)
increasing_placed d [] none order = (tt, tt)
increasing_placed d (e ∷ ds) none order =
    increasing_if d e ds (nat_lt e.number d.number) refl (apart_first d.number e ds none) order
    (increasing_placed d ds (none_later d.number e ds none) order.1)

-- ---- one thing happens

abbrev world_of : List Connected → Histories → World
world_of connections histories = record { connections = connections; histories = histories }

-- to a connection that goes on
pub run_changed : (c : Config) (headings : ℕ → Heading) (w : World) (lives : List Live) (old now : Histories)
    (number : ℕ) (what : Happening) (at : ℕ) (x : Connected) (state : State) (bytes : List ℕ)
    → IsRunAt c headings w lives old → at < length w.connections → (get_or w.connections at x).number ≡ number
    → goes_on (judged_of c (headings (get_or w.connections at x).number) (get_or w.connections at x))
    (get_or w.connections at x).steps (get_or w.connections at x).closed ≡ true
    → Becomes c (headings (get_or w.connections at x).number) old now (get_or w.connections at x) what state bytes
    → IsRunAt c headings (happens c headings w number what)
    (set lives at (record { number = number; state = state; bytes = bytes })) now
run_changed c headings w lives old now number what at x state bytes run within here goes b =
    let d : Connected = get_or w.connections at x in
    let ds : List Connected = w.connections in
    let concerned : is_concerned c (headings d.number) number d ≡ true =
    ap (λ (t : Bool). t && goes_on (judged_of c (headings d.number) d) d.steps d.closed) (eq-eqb d.number number here)
    ∙ goes in
    let becomes : moved_by c headings number what old d ≡ record { connection = b.connection; histories = now } =
    ap (λ (t : Bool). moved_if t c (headings d.number) old d what) concerned ∙ b.is in
    let is : happens c headings w number what ≡ world_of (set ds at b.connection) now =
    ap (λ (h : Histories). happens_in c headings number what h ds) run.histories
    ∙ happens_at c headings number what old ds at x run.order within here
    ∙ ap (λ (m : Moved). world_of (set ds at m.connection) m.histories) becomes in
    let called : Called c true old now number b.steps =
    subst (λ (n : ℕ). Called c true old now n b.steps) here b.called in
    subst (λ (now_w : World). IsRunAt c headings now_w (set lives at (record {
      number = number;
      state = state;
      bytes = bytes;
    })) now) (sym is)
    (record {
      histories = refl;
      order = increasing_set ds at x b.connection b.number run.order;
      well = subst (IsWell c) is (happens_stays c headings w number what run.well);
      each = pairs_set (IsSoundLive c headings old) (IsLive c headings now) number ds lives at x b.connection
          (record { number = number; state = state; bytes = bytes })
          (live_other c headings old now number (λ me apart. called_others c old now number me b.steps apart called)
          (called_later c old now number b.steps called))
          run.order within here (
            sym here ∙ sym b.number,
            subst (λ (n : ℕ). IsKept c (headings n) now b.connection state bytes) (sym b.number) b.kept,
          )
          (sound_lives c headings w lives old run);
    })

-- to a number of which there is no connection
pub run_nowhere : (c : Config) (headings : ℕ → Heading) (w : World) (lives : List Live) (now : Histories)
    (number : ℕ) (what : Happening) → IsRunAt c headings w lives now → is_opened number w.connections ≡ false
    → IsRunAt c headings (happens c headings w number what) lives now
run_nowhere c headings w lives now number what run none =
    subst (λ (now_w : World). IsRunAt c headings now_w lives now)
    (sym (happens_nowhere c headings number what w.histories w.connections none)) run

-- to one that is over
pub run_over : (c : Config) (headings : ℕ → Heading) (w : World) (lives : List Live) (now : Histories)
    (number : ℕ) (what : Happening) (at : ℕ) (x : Connected)
    → IsRunAt c headings w lives now → at < length w.connections → (get_or w.connections at x).number ≡ number
    → goes_on (judged_of c (headings (get_or w.connections at x).number) (get_or w.connections at x))
    (get_or w.connections at x).steps (get_or w.connections at x).closed ≡ false
    → IsRunAt c headings (happens c headings w number what) lives now
run_over c headings w lives now number what at x run within here over =
    let d : Connected = get_or w.connections at x in
    let ds : List Connected = w.connections in
    let concerned : is_concerned c (headings d.number) number d ≡ false =
    ap (λ (t : Bool). t && goes_on (judged_of c (headings d.number) d) d.steps d.closed) (eq-eqb d.number number here)
    ∙ over in
    let is : happens c headings w number what ≡ w =
    happens_at c headings number what w.histories ds at x run.order within here
    ∙ ap (λ (m : Moved). world_of (set ds at m.connection) m.histories)
    (ap (λ (t : Bool). moved_if t c (headings d.number) w.histories d what) concerned)
    ∙ ap (λ (l : List Connected). world_of l w.histories) (set-get_or ds at x) in
    subst (λ (now_w : World). IsRunAt c headings now_w lives now) (sym is) run

-- ---- a connection opens

pub place_same : (c : Config) (headings : ℕ → Heading) (w : World) (lives : List Live) (now : Histories) (number : ℕ)
    → IsRunAt c headings w lives now → place_of number lives ≡ prefix_len (before number) w.connections
place_same c headings w lives now number run =
    pairs_place (IsLive c headings now) (λ (live : Live). live.number) number w.connections lives
    (λ d live is. is.0) run.each

pub run_opened : (c : Config) (headings : ℕ → Heading) (w : World) (lives : List Live) (old now : Histories)
    (number : ℕ) (o : Opening) (state : State) (bytes : List ℕ)
    → IsRunAt c headings w lives old → is_opened number w.connections ≡ false
    → Becomes c (headings number) old now (fresh number o) (arrives []) state bytes
    → IsRunAt c headings (opens c headings w number o)
    (insert lives (place_of number lives) (record { number = number; state = state; bytes = bytes })) now
run_opened c headings w lives old now number o state bytes run none b =
    let ds : List Connected = w.connections in
    let live : Live = record { number = number; state = state; bytes = bytes } in
    let is : opens c headings w number o ≡ world_of (placed b.connection ds) now =
    ap (λ (t : Bool). opened_if t w (moved c (headings number) w.histories (fresh number o) (arrives []))) none
    ∙ ap (λ (h : Histories). opened_if false w (moved c (headings number) h (fresh number o) (arrives [])))
    run.histories
    ∙ ap (λ (m : Moved). world_of (placed m.connection ds) m.histories) b.is in
    let at : prefix_len (before b.connection.number) ds ≡ place_of number lives =
    ap (λ (n : ℕ). prefix_len (before n) ds) b.number ∙ sym (place_same c headings w lives old number run) in
    subst (λ (now_w : World). IsRunAt c headings now_w (insert lives (place_of number lives) live) now) (sym is)
    (record {
      histories = refl;
      order = increasing_placed b.connection ds (ap (λ (n : ℕ). is_opened n ds) b.number ∙ none) run.order;
      well = subst (IsWell c) is (opens_stays c headings w number o run.well);
      each = subst (λ (l : List Connected). Pairs (IsLive c headings now) l (insert lives (place_of number lives) live))
          (sym (placed_insert b.connection ds ∙ ap (λ (n : ℕ). insert ds n b.connection) at))
          (pairs_insert (IsSoundLive c headings old) (IsLive c headings now) number ds lives (place_of number lives)
          b.connection live
          (live_other c headings old now number (λ me apart. called_others c old now number me b.steps apart b.called)
          (called_later c old now number b.steps b.called))
          none (
            sym b.number,
            subst (λ (n : ℕ). IsKept c (headings n) now b.connection state bytes) (sym b.number) b.kept,
          )
          (sound_lives c headings w lives old run));
    })

-- a number that was opened before changes nothing
pub run_reopened : (c : Config) (headings : ℕ → Heading) (w : World) (lives : List Live) (now : Histories)
    (number : ℕ) (o : Opening) → IsRunAt c headings w lives now → is_opened number w.connections ≡ true
    → IsRunAt c headings (opens c headings w number o) lives now
run_reopened c headings w lives now number o run there =
    subst (λ (now_w : World). IsRunAt c headings now_w lives now)
    (sym (ap (λ (t : Bool). opened_if t w (moved c (headings number) w.histories (fresh number o) (arrives []))) there))
    run

-- ---- what is told at the end

one_told : (c : Config) (headings : ℕ → Heading) (now : Histories) (d : Connected) (number : ℕ) (state : State)
    (bytes : List ℕ) (told : Connection) → number ≡ d.number → IsKept c (headings d.number) now d state bytes
    → IsToldBy state number bytes told → told_of c headings now d ≡ told
one_told c headings now d number (Open session) bytes told same is so = absurd so
one_told c headings now d number (Closed receipt) bytes told same is so =
    over_told c headings now d receipt bytes is
    ∙ ap (λ (n : ℕ). connection_of n receipt bytes) (sym same) ∙ sym so

all_told : (c : Config) (headings : ℕ → Heading) (now : Histories) (ds : List Connected) (lives : List Live)
    (told : List Connection) → Pairs (IsLive c headings now) ds lives → AreTold lives told
    → map (told_of c headings now) ds ≡ told
all_told c headings now [] [] [] pairs so = refl
all_told c headings now [] [] (k ∷ more) pairs so = absurd so
all_told c headings now [] (live ∷ lives) told pairs so = absurd pairs
all_told c headings now (d ∷ ds) [] told pairs so = absurd pairs
all_told c headings now (d ∷ ds) (live ∷ lives) [] pairs so = absurd so
all_told c headings now (d ∷ ds) (live ∷ lives) (k ∷ more) pairs so =
    ap (λ (x : Connection). x ∷ map (told_of c headings now) ds)
    (one_told c headings now d live.number live.state live.bytes k pairs.0.0 pairs.0.1 so.0)
    ∙ ap (λ (l : List Connection). k ∷ l) (all_told c headings now ds lives more pairs.1 so.1)

pub run_told : (c : Config) (headings : ℕ → Heading) (w : World) (lives : List Live) (now : Histories)
    (told : List Connection) → IsRunAt c headings w lives now → AreTold lives told
    → map (told_of c headings w.histories) w.connections ≡ told
run_told c headings w lives now told run so =
    ap (λ (h : Histories). map (told_of c headings h) w.connections) run.histories
    ∙ all_told c headings now w.connections lives told run.each so
