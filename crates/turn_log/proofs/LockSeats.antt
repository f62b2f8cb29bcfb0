-- How seats at the lock come and go: the first one, passes and notes that are cut off and taken in,
-- and the last one.
use Rattle.std.proofs.Common.{◌≡◌, ◌≢◌, ℕ, zero, suc, ◌+◌, ◌^◌, ◌<◌, ◌≤◌, inl, inr, ⊎_elim, Bool, List, [], ◌∷◌, length, set, take, drop, refl, sym, ◌∙◌, ap, subst, arith, sum_by, All, Some, length-append, take-append-drop, Option, unwrap_or}
use Rattle.std.proofs.lemmas.List.{append-nil}
use Rattle.std.proofs.lemmas.List.Elements.{All-nil}
use Rattle.std.proofs.lemmas.List.Sums.{sum_by_push}
use mathlib.Core.Option.{some, some-injective, some-ne-none}
use mathlib.Core.Option as maybe
use mathlib.Core.Logic.{dite}
use native.Mathlib.Decide.{dec_le}
use lib.ListN.{get_elem?}
use Rattle.atomic_table.specs.Table.{State, Splits, Joins, opening, Final, Seen}
use Rattle.atomic_table.proofs.Lists.{set_else, at_longer, at_snoc}
use Rattle.turn_log.specs.declared.lock.rule.SeatStage.{SeatStage}
use Rattle.turn_log.specs.declared.lock.rule.SeatStage.TheVariants.{Idle, Cleared, Waiting, AtTurn}
use Rattle.turn_log.specs.declared.lock.rule.Known.{Known}
use Rattle.turn_log.specs.declared.lock.rule.Held.{Held}
use Rattle.turn_log.specs.History.{History, own, GoesOn}
use Rattle.turn_log.specs.LockRule.{Begins, times, voices, HasTicket, is_cleared, StageOk, ViewOk, Kept, from, maker}
use Rattle.turn_log.specs.LockSteps.{after_deal, dealt, noted, met, spent}
use Rattle.turn_log.proofs.HistoryLaws.{legal_none}
use Rattle.turn_log.proofs.LockLists.{at_same, each_set, sum_set, two_in_sum, times-append, times_cut, length-from, from_within, from_once}
use Rattle.turn_log.proofs.LockHistories.{begins_self, between}
use Rattle.turn_log.proofs.LockSteps.{no_ticket, not_served, holder_set, lies_set, apart_set}

-- what a seat knows is true where it is idle, as far as its numbers and histories go
pub record Fair {C V Z : Type 0} (shape : V → Z) (z : Z) (passes ticket : ℕ) (whole : History C) (view : Known C V) :
    Type 0 where
  pub about : (v : V) → view.about ≡ Some v → shape v ≡ z
  pub worn : view.worn ≤ ticket
  pub sees : Begins view.seen whole
  pub hears : Begins view.told whole
  pub below : (k : ℕ) → 0 < times k (voices view) → k < passes
  pub own_seen : (k : ℕ) → 0 < times k view.numbers → own k whole ≡ own k view.seen
  pub own_told : (k : ℕ) → 0 < times k view.brought → own k whole ≡ own k view.told

module _ {V C Z : Type 0} (passes : ℕ) (stands : V → History C → Type 0) (shape : V → Z)
    (fits : Z → History C → ℕ → C → Bool) (z : Z) where
  abbrev Rule : State (Held V C) (Known C V) → Type 0
  Rule s = Kept passes stands shape fits z s

  idle_ok : (serving ticket : ℕ) (whole : History C) (view : Known C V)
      → view.stage ≡ Idle → Fair shape z passes ticket whole view → ViewOk shape z passes serving ticket whole view
  idle_ok serving ticket whole view idle fair = record {
    about = fair.about;
    worn = fair.worn;
    sees = fair.sees;
    hears = fair.hears;
    below = fair.below;
    own_seen = fair.own_seen;
    own_told = fair.own_told;
    stage = subst (λ (stage : SeatStage). StageOk serving ticket whole view.seen view.numbers stage) (sym idle) tt;
  }

  -- the two parts of a view speak together for no more than it did
  pub record Parts (v left right : Known C V) : Type 0 where
    pub size : length (voices left) + length (voices right) ≤ length (voices v)
    pub each : (k : ℕ) → times k (voices left) + times k (voices right) ≤ times k (voices v)

  pub splits_by : (id : ℕ) (v left right : Known C V) → v.stage ≡ Idle → left.stage ≡ Idle → right.stage ≡ Idle
      → Parts v left right
      → ((serving ticket : ℕ) (whole : History C) → ViewOk shape z passes serving ticket whole v
      → Fair shape z passes ticket whole left × Fair shape z passes ticket whole right)
      → Splits Rule id v left right
  splits_by id v left right idle idle_left idle_right parts fair s k here =
      let views : List (Known C V) = set s.views id left in
      let both = fair k.serving k.ticket k.whole (k.each id v here) in
      let Ok : Known C V → Type 0 = ViewOk shape z passes k.serving k.ticket k.whole in
      let first_each = each_set Ok s.views id left (λ j u else at. k.each j u at)
      (idle_ok k.serving k.ticket k.whole left idle_left both.0) in
      let first_apart = apart_set s.views id left k.apart
      (λ j u n else at has mine. no_ticket left.stage idle_left n mine) in
      record {
        serving = k.serving;
        ticket = k.ticket;
        whole = k.whole;
        few = k.few;
        words = k.words;
        long = k.long;
        behind = k.behind;
        legal = k.legal;
        numbered = k.numbered;
        counts = record {
          room =
              let f : Known C V → ℕ = λ view. is_cleared view.stage in
              let e : is_cleared v.stage ≡ 0 = ap is_cleared idle in
              let l : is_cleared left.stage ≡ 0 = ap is_cleared idle_left in
              let r : is_cleared right.stage ≡ 0 = ap is_cleared idle_right in
              omega (arith, e, l, r, k.counts.room, sum_by_push f views right, sum_set f s.views id v left here);
          parts =
              let f : Known C V → ℕ = λ view. length (voices view) in
              omega (arith, parts.size, k.counts.parts, sum_by_push f views right, sum_set f s.views id v left here);
          once = λ n.
              let f : Known C V → ℕ = λ view. times n (voices view) in
              omega (arith, parts.each n, k.counts.once n, sum_by_push f views right, sum_set f s.views id v left here);
        };
        each = λ j u at. ⊎_elim (first_each j u) (λ is. subst Ok is (idle_ok k.serving k.ticket k.whole right idle_right
            both.1))
            (at_snoc views right u j at);
        drawn = λ n from below.
            let holder = holder_set s.views id n v left here
            (λ has. absurd (no_ticket v.stage idle n has)) (k.drawn n from below) in
            (holder.0, holder.1, at_longer views (right ∷ []) holder.0 holder.1 holder.2, holder.3);
        apart = λ i j u w n at_i at_j has_i has_j. ⊎_elim
            (λ one. ⊎_elim
            (λ two. first_apart i j u w n one two has_i has_j)
            (λ two. absurd (no_ticket right.stage idle_right n (subst (λ (view : Known C V). HasTicket view.stage n)
            (sym two) has_j)))
            (at_snoc views right w j at_j))
            (λ one. absurd (no_ticket right.stage idle_right n (subst (λ (view : Known C V). HasTicket view.stage n)
            (sym one) has_i)))
            (at_snoc views right u i at_i);
        lies = ⊎_elim
            (λ home. inl (
              home.0,
              home.1,
              home.2,
              home.3,
              (λ j u t at is. ⊎_elim
                  (λ one. home.4 j u t one is)
                  (λ one. not_served right.stage idle_right t (ap (λ (view : Known C V). view.stage) one ∙ is))
                  (at_snoc views right u j at)),
            ))
            (λ out. inr (
              out.0,
              (
                out.1.0,
                out.1.1,
                out.1.2,
                at_longer views (right ∷ []) out.1.0 out.1.1 out.1.3,
                out.1.4,
              ),
            ))
            (lies_set stands shape z k.whole s.homes s.views id v left here
            (not_served v.stage idle) (not_served left.stage idle_left) k.lies);
      }

  -- the two views that come of two others speak together for no more than they did
  pub record Sums (v w both rest : Known C V) : Type 0 where
    pub size : length (voices both) + length (voices rest) ≤ length (voices v) + length (voices w)
    pub each : (k : ℕ) → times k (voices both) + times k (voices rest) ≤ times k (voices v) + times k (voices w)

  pub joins_by : (id other : ℕ) (v w both rest : Known C V) → v.stage ≡ Idle → w.stage ≡ Idle → both.stage ≡ Idle
      → rest.stage ≡ Idle
      → Sums v w both rest
      → ((serving ticket : ℕ) (whole : History C) → ViewOk shape z passes serving ticket whole v
      → ViewOk shape z passes serving ticket whole w
      → Fair shape z passes ticket whole both × Fair shape z passes ticket whole rest)
      → Joins Rule id v other w both rest
  joins_by id other v w both rest idle idle_w idle_both idle_rest sums fair s k here else there =
      let views : List (Known C V) = set s.views id both in
      let old_there : get_elem? s.views other ≡ some w = sym (set_else s.views id other both else) ∙ there in
      let two = fair k.serving k.ticket k.whole (k.each id v here) (k.each other w old_there) in
      let Ok : Known C V → Type 0 = ViewOk shape z passes k.serving k.ticket k.whole in
      let sum : (f : Known C V → ℕ) → sum_by f (set views other rest) + f w + f v ≡ sum_by f s.views + f rest + f both =
      λ (f : Known C V → ℕ). omega (arith, sum_set f s.views id v both here, sum_set f views other w rest there) in
      record {
        serving = k.serving;
        ticket = k.ticket;
        whole = k.whole;
        few = k.few;
        words = k.words;
        long = k.long;
        behind = k.behind;
        legal = k.legal;
        numbered = k.numbered;
        counts = record {
          room =
              let a : is_cleared v.stage ≡ 0 = ap is_cleared idle in
              let b : is_cleared w.stage ≡ 0 = ap is_cleared idle_w in
              let c : is_cleared both.stage ≡ 0 = ap is_cleared idle_both in
              let d : is_cleared rest.stage ≡ 0 = ap is_cleared idle_rest in
              omega (arith, a, b, c, d, k.counts.room, sum (λ view. is_cleared view.stage));
          parts = omega (arith, sums.size, k.counts.parts, sum (λ view. length (voices view)));
          once = λ n. omega (arith, sums.each n, k.counts.once n, sum (λ view. times n (voices view)));
        };
        each = each_set Ok views other rest
            (λ j u other_j at. each_set Ok s.views id both (λ i x else_i found. k.each i x found)
            (idle_ok k.serving k.ticket k.whole both idle_both two.0) j u at)
            (idle_ok k.serving k.ticket k.whole rest idle_rest two.1);
        drawn = λ n from below. holder_set views other n w rest there
            (λ has. absurd (no_ticket w.stage idle_w n has))
            (holder_set s.views id n v both here (λ has. absurd (no_ticket v.stage idle n has))
            (k.drawn n from below));
        apart = apart_set views other rest
            (apart_set s.views id both k.apart (λ j u n else_j at has mine. no_ticket both.stage idle_both n mine))
            (λ j u n else_j at has mine. no_ticket rest.stage idle_rest n mine);
        lies = lies_set stands shape z k.whole s.homes views other w rest there
            (not_served w.stage idle_w) (not_served rest.stage idle_rest)
            (lies_set stands shape z k.whole s.homes s.views id v both here
            (not_served v.stage idle) (not_served both.stage idle_both) k.lies);
      }

  pub fair_of : (serving ticket : ℕ) (whole : History C) (view : Known C V)
      → ViewOk shape z passes serving ticket whole view → Fair shape z passes ticket whole view
  fair_of serving ticket whole view was = record {
    about = was.about;
    worn = was.worn;
    sees = was.sees;
    hears = was.hears;
    below = was.below;
    own_seen = was.own_seen;
    own_told = was.own_told;
  }

  -- a pass is dealt
  pub deals : (id : ℕ) (v : Known C V) → v.stage ≡ Idle → Splits Rule id v (after_deal v) (dealt v)
  deals id v idle =
      splits_by id v (after_deal v) (dealt v) idle idle idle
      (record {
        size = omega (
          arith,
          length-append (drop 1 v.numbers) v.brought,
          length-append (take 1 v.numbers) [],
          length-append v.numbers v.brought,
          ap length (take-append-drop 1 v.numbers),
          length-append (take 1 v.numbers) (drop 1 v.numbers),
        );
        each = λ n. omega (
          arith,
          times-append n (drop 1 v.numbers) v.brought,
          times-append n (take 1 v.numbers) [],
          times-append n v.numbers v.brought,
          times_cut n v.numbers,
        );
      })
      (λ serving ticket whole was. (
        record {
          about = was.about;
          worn = was.worn;
          sees = was.sees;
          hears = was.hears;
          below = λ n speaks. was.below n (omega (
            arith,
            speaks,
            times-append n (drop 1 v.numbers) v.brought,
            times-append n v.numbers v.brought,
            times_cut n v.numbers,
          ));
          own_seen = λ n speaks. was.own_seen n (omega (arith, speaks, times_cut n v.numbers));
          own_told = was.own_told;
        },
        record {
          about = was.about;
          worn = was.worn;
          sees = was.sees;
          hears = (whole, refl);
          below = λ n speaks. was.below n (omega (
            arith,
            speaks,
            times-append n (take 1 v.numbers) [],
            times-append n v.numbers v.brought,
            times_cut n v.numbers,
          ));
          own_seen = λ n speaks. was.own_seen n (omega (arith, speaks, times_cut n v.numbers));
          own_told = λ n speaks. absurd (omega (arith, speaks));
        },
      ))

  -- a note is cut off
  pub notes : (id : ℕ) (v : Known C V) → v.stage ≡ Idle → Splits Rule id v v (noted v)
  notes id v idle =
      splits_by id v v (noted v) idle idle idle
      (record { size = omega arith; each = λ n. omega arith })
      (λ serving ticket whole was. (
        fair_of serving ticket whole v was,
        record {
          about = was.about;
          worn = omega arith;
          sees = was.sees;
          hears = (whole, refl);
          below = λ n speaks. absurd (omega (arith, speaks));
          own_seen = λ n speaks. absurd (omega (arith, speaks));
          own_told = λ n speaks. absurd (omega (arith, speaks));
        },
      ))

  -- a note or a pass is taken in
  pub meets : (id other : ℕ) (v w : Known C V) → v.stage ≡ Idle → w.stage ≡ Idle
      → Joins Rule id v other w (met v w) spent
  meets id other v w idle idle_w =
      joins_by id other v w (met v w) spent idle idle_w idle refl
      (record {
        size = omega (
          arith,
          length-append v.numbers w.numbers,
          length-append v.numbers v.brought,
          length-append
              w.numbers w.brought,
        );
        each = λ n. omega (
          arith,
          times-append n v.numbers w.numbers,
          times-append n v.numbers v.brought,
          times-append n
              w.numbers w.brought,
        );
      })
      (λ serving ticket whole was other_was. (
        record {
          about = was.about;
          worn = omega (arith, was.worn, other_was.worn);
          sees = was.sees;
          hears = other_was.sees;
          below = λ n speaks. dite (dec_le 1 (times n v.numbers))
              (λ one. was.below n (omega (arith, one, times-append n v.numbers v.brought)))
              (λ none_one. other_was.below n (omega (
                arith,
                none_one,
                speaks,
                times-append n v.numbers w.numbers,
                times-append n w.numbers w.brought,
              )));
          own_seen = was.own_seen;
          own_told = other_was.own_seen;
        },
        record {
          about = λ y e. absurd (cc e);
          worn = omega arith;
          sees = (whole, refl);
          hears = (whole, refl);
          below = λ n speaks. absurd (omega (arith, speaks));
          own_seen = λ n speaks. absurd (omega (arith, speaks));
          own_told = λ n speaks. absurd (omega (arith, speaks));
        },
      ))

  -- the lock is opened

  opened : (value : V) → (id : ℕ) (view : Known C V) → get_elem? (maker {C = C} value passes ∷ []) id ≡ some view
      → maker value passes ≡ view
  opened value zero view e = some-injective (maker value passes) view e
  opened value (suc id) view e = absurd (some-ne-none view (sym e))

  opened_at : (value : V) → (id : ℕ) (view : Known C V) → get_elem? (maker {C = C} value passes ∷ []) id ≡ some view
      → id ≡ 0
  opened_at value zero view e = refl
  opened_at value (suc id) view e = absurd (some-ne-none view (sym e))

  pub opens : (held : Held V C) → stands held.value [] → shape held.value ≡ z → passes < 2 ^ 32
      → Rule (opening (0 ∷ 0 ∷ []) (held ∷ []) (maker held.value passes))
  opens held stand shaped few =
      let first : Known C V = maker held.value passes in
      let all : (n : ℕ) → times n (voices first) ≡ times n (from 0 passes) =
      λ n. ap (times n) (append-nil (from 0 passes)) in
      record {
        serving = 0;
        ticket = 0;
        whole = [];
        few = few;
        words = refl;
        long = refl;
        behind = omega arith;
        legal = legal_none (fits z);
        numbered = All-nil (λ (entry : ℕ × C). entry.0 < passes);
        counts = record {
          room = omega arith;
          parts = omega (arith, length-append (from 0 passes) [], length-from 0 passes);
          once = λ n. omega (arith, all n, from_once n 0 passes);
        };
        each = λ id view e. subst (ViewOk shape z passes 0 0 []) (opened held.value id view e)
            (record {
              about = λ v is. let same : held.value ≡ v = ap (λ (o : Option V). unwrap_or o held.value) is in
                  ap shape (sym same) ∙ shaped;
              worn = omega arith;
              sees = begins_self [];
              hears = begins_self [];
              below = λ n speaks. let w = from_within n 0 passes (omega (arith, speaks, all n)) in omega (arith, w.1);
              own_seen = λ n speaks. refl;
              own_told = λ n speaks. refl;
              stage = tt;
            });
        drawn = λ n from below. absurd (omega (arith, below));
        apart = λ i j v w n at_i at_j has_i has_j. opened_at held.value i v at_i ∙ sym (opened_at held.value j w at_j);
        lies = inl (
          held,
          refl,
          stand,
          shaped,
          (λ id view t e is.
              not_served first.stage refl t (ap (λ (v : Known C V). v.stage) (opened held.value id view e) ∙ is)),
        );
      }

  -- who has a ticket speaks for some caller
  speaks_with : (serving ticket n : ℕ) (whole seen : History C) (numbers : List ℕ) (stage : SeatStage) → HasTicket stage n
      → StageOk serving ticket whole seen numbers stage → 0 < length numbers
  speaks_with serving ticket n whole seen numbers Idle has is = absurd has
  speaks_with serving ticket n whole seen numbers Cleared has is = absurd has
  speaks_with serving ticket n whole seen numbers (Waiting t) has is = is.2
  speaks_with serving ticket n whole seen numbers (AtTurn t) has is = is.2

  -- where an idle seat speaks for all, each ticket that was drawn was served
  all_done : (id : ℕ) (v : Known C V) (s : State (Held V C) (Known C V)) (k : Rule s) → get_elem? s.views id ≡ some v
      → v.stage ≡ Idle → passes ≤ length v.numbers → k.ticket ≤ k.serving
  all_done id v s k here idle all = dite (dec_le k.ticket k.serving) (λ done. done)
      (λ more.
      let holder = k.drawn k.serving (omega arith) (omega (arith, more)) in
      let j : ℕ = holder.0 in
      let u : Known C V = holder.1 in
      let else : id ≢ j = λ is. no_ticket v.stage idle k.serving
      (subst (λ (view : Known C V). HasTicket view.stage k.serving) (sym (at_same s.views id j v u is here holder.2))
      holder.3) in
      absurd (omega (
        arith,
        all,
        speaks_with k.serving k.ticket k.serving k.whole u.seen u.numbers u.stage holder.3
            (k.each j u holder.2).stage,
        two_in_sum (λ view. length (voices view)) s.views id j v u else here holder.2,
        k.counts.parts,
        length-append v.numbers v.brought,
        length-append u.numbers u.brought,
      )))

  -- the lock is closed by an idle seat that speaks for all
  pub closes : (id : ℕ) (v : Known C V) (words : List ℕ) (slots : List (Held V C)) → v.stage ≡ Idle
      → passes ≤ length v.numbers → Final (Seen Rule id v) words slots
      → (held : Held V C) × (whole : History C) × (get_elem? slots 0 ≡ some held) × stands held.value whole
      × (shape held.value ≡ z) × All (λ entry. entry.0 < passes) whole
      × ((n : ℕ) → 0 < times n v.numbers → GoesOn n v.seen whole) × (v.worn ≤ length whole)
  closes id v words slots idle all end =
      let s : State (Held V C) (Known C V) = end.0 in
      let k = end.1.0 in
      let here = end.1.1 in
      let was = k.each id v here in
      let size : Known C V → ℕ = λ view. length (voices view) in
      ⊎_elim
      (λ home. (
        home.0,
        k.whole,
        end.4 0 home.0 (ap (λ (hs : List (maybe.Option (Held V C))). get_elem? hs 0) home.1),
        home.2,
        home.3,
        k.numbered,
        (λ n speaks. (between n v.seen k.whole k.whole was.sees (begins_self k.whole) (was.own_seen n speaks)).0),
        omega (arith, was.worn, all_done id v s k here idle all, k.long),
      ))
      (λ out.
      let j : ℕ = out.1.0 in
      let u : Known C V = out.1.1 in
      let else : id ≢ j = λ is. not_served v.stage idle out.1.2
      (ap (λ (view : Known C V). view.stage) (at_same s.views id j v u is here out.1.3) ∙ out.1.4) in
      let turn = subst (λ (stage : SeatStage). StageOk k.serving k.ticket k.whole u.seen u.numbers stage) out.1.4
      (k.each j u out.1.3).stage in
      absurd (omega (
        arith,
        all,
        turn.2,
        two_in_sum size s.views id j v u else here out.1.3,
        k.counts.parts,
        length-append v.numbers v.brought,
        length-append u.numbers u.brought,
      )))
      k.lies
