-- Each step of a turn keeps the lock's rule.
use Rattle.std.proofs.Common.{◌≡◌, ◌≢◌, ℕ, zero, suc, ◌+◌, ◌%◌, ◌^◌, ◌<◌, ◌≤◌, inl, inr, ⊎_elim, Bool, IsTrue, List, [], ◌∷◌, ◌++◌, length, set, refl, sym, ◌∙◌, ap, ap₂, subst, arith, sum_by, All, Some, length-append, mod-eq_of_lt, slice_index, slice_set, get_or, unwrap_or, Option}
use Rattle.std.proofs.lemmas.List.{append-nil}
use Rattle.std.proofs.lemmas.List.Elements.{All-append}
use mathlib.Core.Option.{some, none}
use mathlib.Core.Option as maybe
use mathlib.Core.Logic.{dite}
use native.Mathlib.Decide.{dec_le, ℕ_discrete}
use lib.ListN.{get_elem?}
use Rattle.atomic_table.specs.Table.{State, Act, keeps, takes, gives, Valid, Allows, rest, put_back, homes_after, carried_after}
use Rattle.atomic_table.proofs.Lists.{at_set, set_here, set_else}
use Rattle.turn_log.specs.declared.lock.rule.SeatStage.{SeatStage}
use Rattle.turn_log.specs.declared.lock.rule.SeatStage.TheVariants.{Idle, Cleared, Waiting, AtTurn}
use Rattle.turn_log.specs.declared.lock.rule.Known.{Known}
use Rattle.turn_log.specs.declared.lock.rule.Held.{Held}
use Rattle.turn_log.specs.History.{History, IsLegal, own, GoesOn}
use Rattle.turn_log.specs.LockRule.{times, voices, HasTicket, HasHolder, is_cleared, StageOk, ViewOk, Counts, Lies, Kept}
use Rattle.turn_log.specs.LockSteps.{Seated, clears, draws, Took, looks, advances, settles}
use Rattle.turn_log.proofs.HistoryLaws.{legal_snoc, legal_front}
use Rattle.turn_log.proofs.LockLists.{at_length, at_same, each_set, sum_set, in_sum, two_in_sum, sum_le, times-append}
use Rattle.turn_log.proofs.LockHistories.{begins_next, none_more, between, own_next, longer}

-- one view is set

pub counts_set : {C V : Type 0} (passes ticket next : ℕ) (views : List (Known C V)) (id : ℕ) (v w : Known C V)
    → get_elem? views id ≡ some v → Counts passes ticket views
    → next + sum_by (λ view. is_cleared view.stage) (set views id w) ≤ 2 ^ 62 + passes
    → length (voices w) ≤ length (voices v) → ((k : ℕ) → times k (voices w) ≤ times k (voices v))
    → Counts passes next (set views id w)
counts_set passes ticket next views id v w here counts room less few = record {
  room = room;
  parts = omega (arith, counts.parts, less, sum_set (λ view. length (voices view)) views id v w here);
  once = λ k. omega (arith, counts.once k, few k, sum_set (λ view. times k (voices view)) views id v w here);
}

pub apart_set : {C V : Type 0} (views : List (Known C V)) (id : ℕ) (w : Known C V)
    → ((i j : ℕ) (u v : Known C V) (n : ℕ) → get_elem? views i ≡ some u → get_elem? views j ≡ some v
    → HasTicket u.stage n → HasTicket v.stage n → i ≡ j)
    → ((j : ℕ) (u : Known C V) (n : ℕ) → j ≢ id → get_elem? views j ≡ some u
    → HasTicket u.stage n → HasTicket w.stage n → ⊥)
    → (i j : ℕ) (u v : Known C V) (n : ℕ) → get_elem? (set views id w) i ≡ some u
    → get_elem? (set views id w) j ≡ some v → HasTicket u.stage n → HasTicket v.stage n → i ≡ j
apart_set {C} {V} views id w apart new i j u v n at_i at_j has_i has_j =
    let T : Known C V → Type 0 = λ view. HasTicket view.stage n in
    ⊎_elim
    (λ one. ⊎_elim
    (λ two. one.0 ∙ sym two.0)
    (λ two. absurd (new j v n two.0 two.1 has_j (subst T (sym one.1) has_i)))
    (at_set views id j w v at_j))
    (λ one. ⊎_elim
    (λ two. absurd (new i u n one.0 one.1 has_i (subst T (sym two.1) has_j)))
    (λ two. apart i j u v n one.1 two.1 has_i has_j)
    (at_set views id j w v at_j))
    (at_set views id i w u at_i)

-- who is idle has no ticket, and is not at its turn

pub no_ticket : (stage : SeatStage) → stage ≡ Idle → (n : ℕ) → HasTicket stage n → ⊥
no_ticket stage idle n has = subst (λ (x : SeatStage). HasTicket x n) idle has

pub not_served : (stage : SeatStage) → stage ≡ Idle → (t : ℕ) → stage ≡ AtTurn t → ⊥
not_served stage idle t is = let e : Idle ≡ AtTurn t = sym idle ∙ is in absurd (cc e)

-- the seat that was set has this ticket
pub holder_here : {C V : Type 0} (views : List (Known C V)) (id n : ℕ) (v w : Known C V)
    → get_elem? views id ≡ some v → HasTicket w.stage n → HasHolder (set views id w) n
holder_here views id n v w here has = (id, w, set_here views id w (at_length views id v here), has)

-- a ticket is some seat's as before, where the seat that was set keeps its own
pub holder_set : {C V : Type 0} (views : List (Known C V)) (id n : ℕ) (v w : Known C V)
    → get_elem? views id ≡ some v → (HasTicket v.stage n → HasTicket w.stage n)
    → HasHolder views n → HasHolder (set views id w) n
holder_set {C} {V} views id n v w here kept holder =
    let j : ℕ = holder.0 in
    let u : Known C V = holder.1 in
    dite (ℕ_discrete j id)
    (λ is. holder_here views id n v w here (kept (subst (λ (view : Known C V). HasTicket view.stage n)
    (at_same views j id u v is holder.2 here) holder.3)))
    (λ else. (j, u, set_else views id j w else ∙ holder.2, holder.3))

-- nobody is at its turn
abbrev pub Quiet : {C V : Type 0} → List (Known C V) → Type 0
Quiet {C} {V} views = (id : ℕ) (view : Known C V) (t : ℕ) → get_elem? views id ≡ some view → view.stage ≡ AtTurn t → ⊥

pub quiet_set : {C V : Type 0} (views : List (Known C V)) (id : ℕ) (w : Known C V)
    → ((j : ℕ) (u : Known C V) (t : ℕ) → j ≢ id → get_elem? views j ≡ some u → u.stage ≡ AtTurn t → ⊥)
    → ((t : ℕ) → w.stage ≡ AtTurn t → ⊥) → Quiet (set views id w)
quiet_set {C} {V} views id w others mine j u t at is =
    each_set (λ (view : Known C V). view.stage ≡ AtTurn t → ⊥) views id w
    (λ i v else found. others i v t else found) (mine t) j u at is

all_one : {A : Type 0} (P : A → Type 0) (x : A) → P x → All P (x ∷ [])
all_one P x holds zero d le = holds
all_one P x holds (suc i) d le = absurd (omega (arith, le))

at_stage : {C : Type 0} (stage : SeatStage) (numbers brought : List ℕ) (seen : History C) (serving ticket : ℕ)
    (whole : History C)
    → StageOk serving ticket whole seen numbers stage → is_cleared stage ≤ length (numbers ++ brought)
at_stage Idle numbers brought seen serving ticket whole ok = omega arith
at_stage Cleared numbers brought seen serving ticket whole ok = omega (arith, ok, length-append numbers brought)
at_stage (Waiting t) numbers brought seen serving ticket whole ok = omega arith
at_stage (AtTurn t) numbers brought seen serving ticket whole ok = omega arith

-- who may draw speaks for some caller
cleared_speaks : {C V : Type 0} (serving ticket : ℕ) (whole : History C) (view : Known C V)
    → StageOk serving ticket whole view.seen view.numbers view.stage → is_cleared view.stage ≤ length (voices view)
cleared_speaks serving ticket whole view ok = at_stage view.stage view.numbers view.brought view.seen serving ticket
    whole ok

pub lies_set : {C V Z : Type 0} (stands : V → History C → Type 0) (shape : V → Z) (z : Z) (whole : History C)
    (homes : List (maybe.Option (Held V C))) (views : List (Known C V)) (id : ℕ) (v w : Known C V)
    → get_elem? views id ≡ some v → ((t : ℕ) → v.stage ≡ AtTurn t → ⊥) → ((t : ℕ) → w.stage ≡ AtTurn t → ⊥)
    → Lies stands shape z whole homes views → Lies stands shape z whole homes (set views id w)
lies_set {C} {V} stands shape z whole homes views id v w here before after lies =
    ⊎_elim
    (λ home. inl (
      home.0,
      home.1,
      home.2,
      home.3,
      quiet_set views id w (λ j u t else found. home.4 j u t found) after,
    ))
    (λ out. let j : ℕ = out.1.0 in let u : Known C V = out.1.1 in
    let else : j ≢ id = λ is.
    before out.1.2 (ap (λ (view : Known C V). view.stage) (at_same views id j v u (sym is) here out.1.3) ∙ out.1.4) in
    inr (out.0, (j, u, out.1.2, set_else views id j w else ∙ out.1.3, out.1.4)))
    lies

module _ {V C Z : Type 0} (passes : ℕ) (stands : V → History C → Type 0) (shape : V → Z)
    (fits : Z → History C → ℕ → C → Bool) (z : Z) where
  abbrev Rule : State (Held V C) (Known C V) → Type 0
  Rule s = Kept passes stands shape fits z s

  -- a step at a table whose words are known by the rule
  by_words : (slots id i : ℕ) (me : Seated C V) (f : ℕ → ℕ) (then : ℕ → Seated C V → Type 0)
      → ((s : State (Held V C) (Known C V)) (k : Rule s) → get_elem? s.views id ≡ some me.0
      → let ws : List ℕ = k.serving ∷ k.ticket ∷ [] in
      (w : Known C V) × (a : Act (Held V C)) × Valid s.homes me.1 a
      × Rule (record {
        words = slice_set ws i (f (slice_index ws i));
        homes = homes_after s.homes me.1 a;
        views = slice_set s.views id w;
      })
      × then (slice_index ws i) (w, carried_after me.1 a))
      → Allows Rule slots id me i f then
  by_words slots id i me f then at s k long here fits_word =
      subst (λ (ws : List ℕ). (w : Known C V) × (a : Act (Held V C)) × Valid s.homes me.1 a
      × Rule (record {
        words = slice_set ws i (f (slice_index ws i));
        homes = homes_after s.homes me.1 a;
        views = slice_set s.views id w;
      })
      × then (slice_index ws i) (w, carried_after me.1 a)) (sym k.words) (at s k here)

  -- one view changes, and neither a word nor the slot
  pub quiet_step : (s : State (Held V C) (Known C V)) (k : Rule s) (id : ℕ) (v w : Known C V)
      → get_elem? s.views id ≡ some v → ((t : ℕ) → v.stage ≡ AtTurn t → ⊥) → ((t : ℕ) → w.stage ≡ AtTurn t → ⊥)
      → ((n : ℕ) → HasTicket w.stage n → HasTicket v.stage n) → ((n : ℕ) → HasTicket v.stage n → HasTicket w.stage n)
      → Counts passes k.ticket (set s.views id w)
      → ViewOk shape z passes k.serving k.ticket k.whole w
      → Rule (record { words = k.serving ∷ k.ticket ∷ []; homes = s.homes; views = set s.views id w })
  quiet_step s k id v w here before after kept still counts ok = record {
    serving = k.serving;
    ticket = k.ticket;
    whole = k.whole;
    few = k.few;
    words = refl;
    long = k.long;
    behind = k.behind;
    legal = k.legal;
    numbered = k.numbered;
    counts = counts;
    each = each_set (ViewOk shape z passes k.serving k.ticket k.whole) s.views id w (λ j u else at. k.each j u at) ok;
    drawn = λ n from below. holder_set s.views id n v w here (still n) (k.drawn n from below);
    apart = apart_set s.views id w k.apart
        (λ j u n else at has mine. else (k.apart j id u v n at here has (kept n mine)));
    lies = lies_set stands shape z k.whole s.homes s.views id v w here before after k.lies;
  }

  -- clear: the ticket word is loaded

  clear_room : (s : State (Held V C) (Known C V)) (k : Rule s) (id : ℕ) (v w : Known C V)
      → get_elem? s.views id ≡ some v → v.stage ≡ Idle → w.stage ≡ Cleared → 0 < length v.numbers
      → w.numbers ≡ v.numbers → w.brought ≡ v.brought → k.ticket < 2 ^ 62
      → Counts passes k.ticket (set s.views id w)
  clear_room s k id v w here idle cleared speaks same brought few =
      let voiced : voices w ≡ voices v = ap₂ (λ (a b : List ℕ). a ++ b) same brought in
      let parts = sum_set (λ view. length (voices view)) s.views id v w here in
      let voiced_length : length (voices w) ≡ length (voices v) = ap length voiced in
      let most : sum_by (λ (view : Known C V). is_cleared view.stage) (set s.views id w)
      ≤ sum_by (λ (view : Known C V). length (voices view)) (set s.views id w) =
      sum_le (λ (view : Known C V). is_cleared view.stage) (λ (view : Known C V). length (voices view))
      (set s.views id w)
      (λ i u at. each_set (λ (view : Known C V). is_cleared view.stage ≤ length (voices view)) s.views id w
      (λ j x else found. cleared_speaks k.serving k.ticket k.whole x (k.each j x found).stage)
      (let e : is_cleared w.stage ≡ 1 = ap is_cleared cleared in
      let l = length-append w.numbers w.brought in
      let n : length w.numbers ≡ length v.numbers = ap length same in
      omega (arith, e, l, n))
      i u at) in
      counts_set passes k.ticket k.ticket s.views id v w here k.counts
      (omega (arith, most, parts, voiced_length, k.counts.parts, few))
      (omega (arith, voiced_length))
      (λ n. let e : times n (voices w) ≡ times n (voices v) = ap (times n) voiced in omega (arith, e))

  pub clears_allowed : (slots id : ℕ) (me : Seated C V) → me.0.stage ≡ Idle → 0 < length me.0.numbers
      → Allows Rule slots id me 1 (λ n. n) (clears me)
  clears_allowed slots id me idle speaks =
      by_words slots id 1 me (λ n. n) (clears me)
      (λ s k here. dite (dec_le (2 ^ 62) k.ticket)
      (λ worn. clear_worn s k here worn)
      (λ few. clear_fresh s k here (omega (arith, few))))
    where
      ok : (s : State (Held V C) (Known C V)) (k : Rule s) → get_elem? s.views id ≡ some me.0
          → ViewOk shape z passes k.serving k.ticket k.whole me.0
      ok s k here = k.each id me.0 here

      clear_worn : (s : State (Held V C) (Known C V)) (k : Rule s) → get_elem? s.views id ≡ some me.0
          → 2 ^ 62 ≤ k.ticket
          → (w : Known C V) × (a : Act (Held V C)) × Valid s.homes me.1 a
          × Rule (record {
            words = k.serving ∷ k.ticket ∷ [];
            homes = homes_after s.homes me.1 a;
            views = slice_set s.views id w;
          })
          × clears me k.ticket (w, carried_after me.1 a)
      clear_worn s k here worn =
          let w : Known C V = record me.0 { worn = k.ticket } in
          let was = ok s k here in (
            w,
            keeps,
            tt,
            quiet_step s k id me.0 w here (not_served me.0.stage idle) (not_served me.0.stage idle) (λ n has. has)
                (λ n has. has)
                (counts_set passes k.ticket k.ticket s.views id me.0 w here k.counts
                (let sums = sum_set (λ (view : Known C V). is_cleared view.stage) s.views id me.0 w here in
                omega (arith, sums, k.counts.room)) (omega arith) (λ n. omega arith))
                (record {
                  about = was.about;
                  worn = omega arith;
                  sees = was.sees;
                  hears = was.hears;
                  below = was.below;
                  own_seen = was.own_seen;
                  own_told = was.own_told;
                  stage = was.stage;
                }),
            ((λ few. absurd (omega (arith, few, worn))), (λ _. refl), refl, was.worn),
          )

      clear_fresh : (s : State (Held V C) (Known C V)) (k : Rule s) → get_elem? s.views id ≡ some me.0
          → k.ticket < 2 ^ 62
          → (w : Known C V) × (a : Act (Held V C)) × Valid s.homes me.1 a
          × Rule (record {
            words = k.serving ∷ k.ticket ∷ [];
            homes = homes_after s.homes me.1 a;
            views = slice_set s.views id w;
          })
          × clears me k.ticket (w, carried_after me.1 a)
      clear_fresh s k here few =
          let w : Known C V = record me.0 { stage = Cleared } in
          let was = ok s k here in (
            w,
            keeps,
            tt,
            quiet_step s k id me.0 w here (not_served me.0.stage idle) (λ t is. absurd (cc is)) (λ n has. absurd has)
                (λ n has. absurd (no_ticket me.0.stage idle n has))
                (clear_room s k id me.0 w here idle refl speaks refl refl few)
                (record {
                  about = was.about;
                  worn = was.worn;
                  sees = was.sees;
                  hears = was.hears;
                  below = was.below;
                  own_seen = was.own_seen;
                  own_told = was.own_told;
                  stage = speaks;
                }),
            ((λ _. refl), (λ worn. absurd (omega (arith, few, worn))), refl, was.worn),
          )

  -- draw: the ticket word goes up by one

  later_stage : (serving ticket : ℕ) (whole seen : History C) (numbers : List ℕ) (stage : SeatStage)
      → StageOk serving ticket whole seen numbers stage → StageOk serving (ticket + 1) whole seen numbers stage
  later_stage serving ticket whole seen numbers Idle ok = tt
  later_stage serving ticket whole seen numbers Cleared ok = ok
  later_stage serving ticket whole seen numbers (Waiting t) ok = (ok.0, omega (arith, ok.1), ok.2)
  later_stage serving ticket whole seen numbers (AtTurn t) ok = (ok.0, omega (arith, ok.1), ok.2, ok.3)

  later : (serving ticket : ℕ) (whole : History C) (view : Known C V)
      → ViewOk shape z passes serving ticket whole view → ViewOk shape z passes serving (ticket + 1) whole view
  later serving ticket whole view was = record {
    about = was.about;
    worn = omega (arith, was.worn);
    sees = was.sees;
    hears = was.hears;
    below = was.below;
    own_seen = was.own_seen;
    own_told = was.own_told;
    stage = later_stage serving ticket whole view.seen view.numbers view.stage was.stage;
  }

  -- a ticket that a seat has was drawn
  drawn_stage : (serving ticket : ℕ) (whole seen : History C) (numbers : List ℕ) (stage : SeatStage) (n : ℕ)
      → StageOk serving ticket whole seen numbers stage → HasTicket stage n → (serving ≤ n) × (n < ticket)
  drawn_stage serving ticket whole seen numbers Idle n ok has = absurd has
  drawn_stage serving ticket whole seen numbers Cleared n ok has = absurd has
  drawn_stage serving ticket whole seen numbers (Waiting t) n ok has =
      (omega (arith, ok.0, has), omega (arith, ok.1, has))
  drawn_stage serving ticket whole seen numbers (AtTurn t) n ok has = (
    omega (arith, ok.0, has),
    omega (arith, ok.1, has),
  )

  was_drawn : (s : State (Held V C) (Known C V)) (k : Rule s) (j n : ℕ) (u : Known C V)
      → get_elem? s.views j ≡ some u → HasTicket u.stage n → (k.serving ≤ n) × (n < k.ticket)
  was_drawn s k j n u at has = drawn_stage k.serving k.ticket k.whole u.seen u.numbers u.stage n (k.each j u at).stage
      has

  pub draws_allowed : (slots id : ℕ) (me : Seated C V) → me.0.stage ≡ Cleared
      → Allows Rule slots id me 1 (λ n. (n + 1) % 2 ^ 64) (draws me)
  draws_allowed slots id me cleared = by_words slots id 1 me (λ n. (n + 1) % 2 ^ 64) (draws me) step
    where
      step : (s : State (Held V C) (Known C V)) (k : Rule s) → get_elem? s.views id ≡ some me.0
          → (w : Known C V) × (a : Act (Held V C)) × Valid s.homes me.1 a
          × Rule (record {
            words = k.serving ∷ (k.ticket + 1) % 2 ^ 64 ∷ [];
            homes = homes_after s.homes me.1 a;
            views = slice_set s.views id w;
          })
          × draws me k.ticket (w, carried_after me.1 a)
      step s k here =
          let w : Known C V = record me.0 { stage = Waiting k.ticket } in
          let was = k.each id me.0 here in
          let may : is_cleared me.0.stage ≡ 1 = ap is_cleared cleared in
          let one = in_sum (λ (view : Known C V). is_cleared view.stage) s.views id me.0 here in
          let sums = sum_set (λ (view : Known C V). is_cleared view.stage) s.views id me.0 w here in
          let small : k.ticket + 1 < 2 ^ 64 = omega (arith, k.counts.room, k.few, one, may) in
          let speaks : 0 < length me.0.numbers =
          subst (λ (stage : SeatStage). StageOk k.serving k.ticket k.whole me.0.seen me.0.numbers stage) cleared was.stage
          in (
            w,
            keeps,
            tt,
            record {
              serving = k.serving;
              ticket = k.ticket + 1;
              whole = k.whole;
              few = k.few;
              words = ap (λ (n : ℕ). k.serving ∷ n ∷ []) (mod-eq_of_lt small);
              long = k.long;
              behind = omega (arith, k.behind);
              legal = k.legal;
              numbered = k.numbered;
              counts = counts_set passes k.ticket (k.ticket + 1) s.views id me.0 w here k.counts
                  (omega (arith, sums, may, k.counts.room)) (omega arith) (λ n. omega arith);
              each = each_set (ViewOk shape z passes k.serving (k.ticket + 1) k.whole) s.views id w
                  (λ j u else at. later k.serving k.ticket k.whole u (k.each j u at))
                  (record {
                    about = was.about;
                    worn = omega (arith, was.worn);
                    sees = was.sees;
                    hears = was.hears;
                    below = was.below;
                    own_seen = was.own_seen;
                    own_told = was.own_told;
                    stage = (k.behind, omega arith, speaks);
                  });
              drawn = λ n from below. dite (dec_le k.ticket n)
                  (λ last. holder_here s.views id n me.0 w here (omega (arith, last, below)))
                  (λ earlier. holder_set s.views id n me.0 w here
                  (λ has. absurd (subst (λ (stage : SeatStage). HasTicket stage n) cleared has))
                  (k.drawn n from (omega (arith, earlier))));
              apart = apart_set s.views id w k.apart
                  (λ j u n else at has mine. let d = was_drawn s k j n u at has in
                  let is : k.ticket ≡ n = mine in absurd (omega (arith, d.1, is)));
              lies = lies_set stands shape z k.whole s.homes s.views id me.0 w here
                  (λ t is. let e : Cleared ≡ AtTurn t = sym cleared ∙ is in absurd (cc e))
                  (λ t is. absurd (cc is)) k.lies;
            },
            (refl, refl),
          )

  -- look: the serving word is loaded

  pub looks_allowed : (slots id t : ℕ) (me : Seated C V) → me.0.stage ≡ Waiting t → me.1 ≡ []
      → Allows Rule slots id me 0 (λ n. n) (looks stands shape fits me)
  looks_allowed slots id t me waiting empty =
      by_words slots id 0 me (λ n. n) (looks stands shape fits me)
      (λ s k here. dite (ℕ_discrete k.serving t) (λ is. served s k here is) (λ ne. missed s k here ne))
    where
      same_ticket : (x : ℕ) → me.0.stage ≡ Waiting x → x ≡ t
      same_ticket x is = let e : Waiting x ≡ Waiting t = sym is ∙ waiting in cc e

      missed : (s : State (Held V C) (Known C V)) (k : Rule s) → get_elem? s.views id ≡ some me.0 → k.serving ≢ t
          → (w : Known C V) × (a : Act (Held V C)) × Valid s.homes me.1 a
          × Rule (record {
            words = k.serving ∷ k.ticket ∷ [];
            homes = homes_after s.homes me.1 a;
            views = slice_set s.views id w;
          })
          × looks stands shape fits me k.serving (w, carried_after me.1 a)
      missed s k here ne =
          let not_served : (x : ℕ) → me.0.stage ≡ AtTurn x → ⊥ = λ x is.
          let e : Waiting t ≡ AtTurn x = sym waiting ∙ is in absurd (cc e) in (
            me.0,
            keeps,
            tt,
            quiet_step s k id me.0 me.0 here not_served not_served (λ n has. has) (λ n has. has)
                (counts_set passes k.ticket k.ticket s.views id me.0 me.0 here k.counts
                (let sums = sum_set (λ (view : Known C V). is_cleared view.stage) s.views id me.0 me.0 here in
                omega (arith, sums, k.counts.room)) (omega arith) (λ n. omega arith))
                (k.each id me.0 here),
            (λ x is. ((λ hit. absurd (ne (hit ∙ same_ticket x is))), (λ _. refl))),
          )

      took : (s : State (Held V C) (Known C V)) (k : Rule s) (here : get_elem? s.views id ≡ some me.0)
          → (held : Held V C) → stands held.value k.whole → shape held.value ≡ z
          → let more : History C = (k.each id me.0 here).sees.0 in
          Took stands shape fits t me (record me.0 { stage = AtTurn t; seen = me.0.seen ++ more }, (0, held) ∷ me.1)
      took s k here held stand shaped =
          let was = k.each id me.0 here in
          let more : History C = was.sees.0 in
          let w : Known C V = record me.0 { stage = AtTurn t; seen = me.0.seen ++ more } in
          let long : length (me.0.seen ++ more) ≡ length k.whole = ap length (sym was.sees.1) in (
            held,
            more,
            ap (λ (l : List (ℕ × Held V C)). (w, (0, held) ∷ l)) empty,
            subst (stands held.value) was.sees.1 stand,
            (λ v e. (
              shaped ∙ sym (was.about v e),
              subst (λ (y : Z). IsLegal (fits y) (me.0.seen ++ more)) (sym (was.about v e))
                  (subst (λ (h : History C). IsLegal (fits z) h) was.sees.1 k.legal),
            )),
            omega (arith, long, k.long, k.behind, k.counts.room, k.few),
            (λ n speaks. none_more n me.0.seen more k.whole ([], was.sees.1 ∙ sym (append-nil (me.0.seen ++ more)))
                (was.own_seen n speaks)),
          )

      serve : (s : State (Held V C) (Known C V)) (k : Rule s) → get_elem? s.views id ≡ some me.0 → k.serving ≡ t
          → (held : Held V C) → s.homes ≡ some held ∷ [] → stands held.value k.whole → shape held.value ≡ z
          → (w : Known C V) × (a : Act (Held V C)) × Valid s.homes me.1 a
          × Rule (record {
            words = k.serving ∷ k.ticket ∷ [];
            homes = homes_after s.homes me.1 a;
            views = slice_set s.views id w;
          })
          × looks stands shape fits me k.serving (w, carried_after me.1 a)
      serve s k here is held home stand shaped =
          let was = k.each id me.0 here in
          let more : History C = was.sees.0 in
          let w : Known C V = record me.0 { stage = AtTurn t; seen = me.0.seen ++ more } in
          let waits : (k.serving ≤ t) × (t < k.ticket) × (0 < length me.0.numbers) =
          subst (λ (stage : SeatStage). StageOk k.serving k.ticket k.whole me.0.seen me.0.numbers stage) waiting
          was.stage in
          let zero_before : is_cleared me.0.stage ≡ 0 = ap is_cleared waiting in (
            w,
            takes 0 held,
            ap (λ (hs : List (maybe.Option (Held V C))). get_elem? hs 0) home,
            record {
              serving = k.serving;
              ticket = k.ticket;
              whole = k.whole;
              few = k.few;
              words = refl;
              long = k.long;
              behind = k.behind;
              legal = k.legal;
              numbered = k.numbered;
              counts = counts_set passes k.ticket k.ticket s.views id me.0 w here k.counts
                  (let sums = sum_set (λ (view : Known C V). is_cleared view.stage) s.views id me.0 w here in
                  omega (arith, sums, k.counts.room)) (omega arith) (λ n. omega arith);
              each = each_set (ViewOk shape z passes k.serving k.ticket k.whole) s.views id w
                  (λ j u else at. k.each j u at)
                  (record {
                    about = was.about;
                    worn = was.worn;
                    sees = ([], was.sees.1 ∙ sym (append-nil (me.0.seen ++ more)));
                    hears = was.hears;
                    below = was.below;
                    own_seen = λ n speaks. ap (own n) was.sees.1;
                    own_told = was.own_told;
                    stage = (sym is, waits.1, waits.2, sym was.sees.1);
                  });
              drawn = λ n from below. holder_set s.views id n me.0 w here
                  (λ has. subst (λ (stage : SeatStage). HasTicket stage n) waiting has) (k.drawn n from below);
              apart = apart_set s.views id w k.apart
                  (λ j u n else at has mine. else (k.apart j id u me.0 n at here has
                  (subst (λ (stage : SeatStage). HasTicket stage n) (sym waiting) mine)));
              lies = inr (
                ap (λ (hs : List (maybe.Option (Held V C))). slice_set hs 0 none) home,
                (id, w, t, set_here s.views id w (at_length s.views id me.0 here), refl),
              );
            },
            (λ x e. (
              (λ hit. subst (λ (y : ℕ). Took stands shape fits y me (w, (0, held) ∷ me.1)) (sym (same_ticket x e))
                  (took s k here held stand shaped)),
              (λ miss. absurd (miss (is ∙ sym (same_ticket x e)))),
            )),
          )

      served : (s : State (Held V C) (Known C V)) (k : Rule s) → get_elem? s.views id ≡ some me.0 → k.serving ≡ t
          → (w : Known C V) × (a : Act (Held V C)) × Valid s.homes me.1 a
          × Rule (record {
            words = k.serving ∷ k.ticket ∷ [];
            homes = homes_after s.homes me.1 a;
            views = slice_set s.views id w;
          })
          × looks stands shape fits me k.serving (w, carried_after me.1 a)
      served s k here is =
          ⊎_elim
          (λ home. serve s k here is home.0 home.1 home.2 home.3)
          (λ out.
          let j : ℕ = out.1.0 in
          let u : Known C V = out.1.1 in
          let x : ℕ = out.1.2 in
          let turn = subst (λ (stage : SeatStage). StageOk k.serving k.ticket k.whole u.seen u.numbers stage) out.1.4
          (k.each j u out.1.3).stage in
          let theirs : HasTicket u.stage t = subst (λ (stage : SeatStage). HasTicket stage t) (sym out.1.4) (turn.0 ∙ is) in
          let mine : HasTicket me.0.stage t = subst (λ (stage : SeatStage). HasTicket stage t) (sym waiting) refl in
          let one = k.apart j id u me.0 t out.1.3 here theirs mine in
          let e : AtTurn x ≡ Waiting t = sym out.1.4
          ∙ ap (λ (view : Known C V). view.stage) (at_same s.views j id u me.0 one out.1.3 here) ∙ waiting in
          absurd (cc e))
          k.lies

  -- advance: the serving word goes up by one

  -- the seats that wait are one ticket nearer
  passed_stage : (serving ticket : ℕ) (whole next seen : History C) (numbers : List ℕ) (stage : SeatStage)
      → StageOk serving ticket whole seen numbers stage → (HasTicket stage serving → ⊥)
      → StageOk (serving + 1) ticket next seen numbers stage
  passed_stage serving ticket whole next seen numbers Idle ok apart = tt
  passed_stage serving ticket whole next seen numbers Cleared ok apart = ok
  passed_stage serving ticket whole next seen numbers (Waiting t) ok apart =
      let ne : t ≢ serving = apart in (omega (arith, ok.0, ne), ok.1, ok.2)
  passed_stage serving ticket whole next seen numbers (AtTurn t) ok apart = absurd (apart ok.0)

  passed : (serving ticket by : ℕ) (whole : History C) (call : C) (view : Known C V)
      → ViewOk shape z passes serving ticket whole view → (HasTicket view.stage serving → ⊥)
      → times by (voices view) ≡ 0
      → ViewOk shape z passes (serving + 1) ticket (whole ++ (by, call) ∷ []) view
  passed serving ticket by whole call view was apart silent = record {
    about = was.about;
    worn = was.worn;
    sees = begins_next view.seen whole (by, call) was.sees;
    hears = begins_next view.told whole (by, call) was.hears;
    below = was.below;
    own_seen = λ n speaks. own_next n by call whole (other n
        (omega (arith, speaks, times-append n view.numbers view.brought)))
        ∙ was.own_seen n speaks;
    own_told = λ n speaks. own_next n by call whole (other n
        (omega (arith, speaks, times-append n view.numbers view.brought)))
        ∙ was.own_told n speaks;
    stage = passed_stage serving ticket whole (whole ++ (by, call) ∷ []) view.seen view.numbers view.stage was.stage
        apart;
  }
    where
      other : (n : ℕ) → 0 < times n (voices view) → by ≢ n
      other n speaks is =
          let e : times by (voices view) ≡ times n (voices view) = ap (λ (m : ℕ). times m (voices view)) is in
          omega (arith, e, speaks, silent)

  -- what a seat knows after its turn
  abbrev ended : Seated C V → ℕ → C → Known C V
  ended me by call = record me.0 { stage = Idle; seen = me.0.seen ++ (by, call) ∷ [] }

  -- what a seat brings to the end of its turn
  pub record Ready (me : Seated C V) (t by : ℕ) (call : C) (held : Held V C) : Type 0 where
    pub turn : me.0.stage ≡ AtTurn t
    pub lent : me.1 ≡ (0, held) ∷ []
    pub last : held.last ≡ Some (by, call)
    pub stands_now : stands held.value (me.0.seen ++ (by, call) ∷ [])
    pub value : V
    pub about : me.0.about ≡ Some value
    pub shaped : shape held.value ≡ shape value
    pub fitting : IsTrue (fits (shape value) me.0.seen by call)
    pub speaks : 0 < times by me.0.numbers
    pub none_brought : me.0.brought ≡ []

  pub advances_allowed : (slots id t by : ℕ) (call : C) (held : Held V C) (me : Seated C V) → Ready me t by call held
      → Allows Rule slots id me 0 (λ n. (n + 1) % 2 ^ 64) (λ _. advances me)
  advances_allowed slots id t by call held me ready = by_words slots id 0 me (λ n. (n + 1) % 2 ^ 64) (λ _. advances me)
      step
    where
      tells : advances me (ended me by call, rest me.1)
      tells lent k c is said =
          let held_is : held ≡ lent = ap (λ (l : List (ℕ × Held V C)). (get_or l 0 (0, held)).1)
          (sym ready.lent ∙ is) in
          let entry : ◌≡◌ {A = ℕ × C} (by, call) (k, c) = ap (λ (o : Option (ℕ × C)). unwrap_or o (by, call))
          (sym ready.last ∙ ap (λ (h : Held V C). h.last) held_is ∙ said) in
          ap₂ (λ (v : Known C V) (l : List (ℕ × Held V C)). (v, l))
          (ap (λ (d : ℕ × C). ended me d.0 d.1) entry)
          (ap rest ready.lent)

      step : (s : State (Held V C) (Known C V)) (k : Rule s) → get_elem? s.views id ≡ some me.0
          → (w : Known C V) × (a : Act (Held V C)) × Valid s.homes me.1 a
          × Rule (record {
            words = (k.serving + 1) % 2 ^ 64 ∷ k.ticket ∷ [];
            homes = homes_after s.homes me.1 a;
            views = slice_set s.views id w;
          })
          × advances me (w, carried_after me.1 a)
      step s k here =
          let e : History C = (by, call) ∷ [] in
          let w : Known C V = ended me by call in
          let was = k.each id me.0 here in
          let turn : (t ≡ k.serving) × (t < k.ticket) × (0 < length me.0.numbers) × (me.0.seen ≡ k.whole) =
          subst (λ (stage : SeatStage). StageOk k.serving k.ticket k.whole me.0.seen me.0.numbers stage) ready.turn
          was.stage in
          let grown : me.0.seen ++ e ≡ k.whole ++ e = ap (λ (h : History C). h ++ e) turn.3 in
          let mine : HasTicket me.0.stage k.serving =
          subst (λ (stage : SeatStage). HasTicket stage k.serving) (sym ready.turn) turn.0 in
          let shape_is : shape ready.value ≡ z = was.about ready.value ready.about in
          let voiced = times-append by me.0.numbers me.0.brought in
          let small : k.serving + 1 < 2 ^ 64 = omega (arith, k.counts.room, k.few, k.behind) in
          let not_cleared : is_cleared me.0.stage ≡ 0 = ap is_cleared ready.turn in (
            w,
            gives,
            tt,
            record {
              serving = k.serving + 1;
              ticket = k.ticket;
              whole = k.whole ++ e;
              few = k.few;
              words = ap (λ (n : ℕ). n ∷ k.ticket ∷ []) (mod-eq_of_lt small);
              long = length-append k.whole e ∙ ap (λ (n : ℕ). n + 1) k.long;
              behind = omega (arith, turn.0, turn.1);
              legal = legal_snoc (fits z) k.whole by call k.legal
                  (subst (λ (h : History C). IsTrue (fits z h by call)) turn.3
                  (subst (λ (y : Z). IsTrue (fits y me.0.seen by call)) shape_is ready.fitting));
              numbered = All-append (λ (entry : ℕ × C). entry.0 < passes) k.whole e k.numbered
                  (all_one (λ (entry : ℕ × C). entry.0 < passes) (by, call)
                  (was.below by (omega (arith, voiced, ready.speaks))));
              counts = counts_set passes k.ticket k.ticket s.views id me.0 w here k.counts
                  (let sums = sum_set (λ (view : Known C V). is_cleared view.stage) s.views id me.0 w here in
                  omega (arith, sums, k.counts.room)) (omega arith) (λ n. omega arith);
              each = each_set (ViewOk shape z passes (k.serving + 1) k.ticket (k.whole ++ e)) s.views id w
                  (λ j u else at. passed k.serving k.ticket by k.whole call u (k.each j u at)
                  (λ has. else (k.apart j id u me.0 k.serving at here has mine))
                  (let two = two_in_sum (λ (view : Known C V). times by (voices view)) s.views j id u me.0 else at
                  here in
                  omega (arith, two, k.counts.once by, voiced, ready.speaks)))
                  (record {
                    about = was.about;
                    worn = was.worn;
                    sees = ([], sym grown ∙ sym (append-nil (me.0.seen ++ e)));
                    hears = begins_next me.0.told k.whole (by, call) was.hears;
                    below = was.below;
                    own_seen = λ n speaks. ap (own n) (sym grown);
                    own_told = λ n speaks. let none_of : times n me.0.brought ≡ 0 = ap (times n) ready.none_brought in
                        absurd (omega (arith, none_of, speaks));
                    stage = tt;
                  });
              drawn = λ n from below. holder_set s.views id n me.0 w here
                  (λ has. let is : t ≡ n = subst (λ (stage : SeatStage). HasTicket stage n) ready.turn has in
                  absurd (omega (arith, is, turn.0, from)))
                  (k.drawn n (omega (arith, from)) below);
              apart = apart_set s.views id w k.apart (λ j u n else at has mine. absurd mine);
              lies = ⊎_elim
                  (λ home. absurd (home.4 id me.0 t here ready.turn))
                  (λ out. inl (
                    held,
                    ap (λ (hs : List (maybe.Option (Held V C))). put_back hs me.1) out.0
                        ∙ ap (put_back (none ∷ [])) ready.lent,
                    subst (stands held.value) grown ready.stands_now,
                    ready.shaped ∙ shape_is,
                    quiet_set s.views id w
                        (λ j u x else at is.
                        let theirs = subst (λ (stage : SeatStage). StageOk k.serving k.ticket k.whole u.seen u.numbers
                        stage) is
                        (k.each j u at).stage in
                        else (k.apart j id u me.0 k.serving at here
                        (subst (λ (stage : SeatStage). HasTicket stage k.serving) (sym is) theirs.0) mine))
                        (λ x is. absurd (cc is)),
                  ))
                  k.lies;
            },
            tells,
          )

  -- settle: the serving word is loaded after a seat was taken in

  pub settles_allowed : (slots id : ℕ) (me : Seated C V) → me.0.stage ≡ Idle
      → Allows Rule slots id me 0 (λ n. n) (λ _. settles shape fits me)
  settles_allowed slots id me idle = by_words slots id 0 me (λ n. n) (λ _. settles shape fits me) step
    where
      step : (s : State (Held V C) (Known C V)) (k : Rule s) → get_elem? s.views id ≡ some me.0
          → (w : Known C V) × (a : Act (Held V C)) × Valid s.homes me.1 a
          × Rule (record {
            words = k.serving ∷ k.ticket ∷ [];
            homes = homes_after s.homes me.1 a;
            views = slice_set s.views id w;
          })
          × settles shape fits me (w, carried_after me.1 a)
      step s k here =
          let was = k.each id me.0 here in
          let found = longer me.0.seen me.0.told k.whole was.sees was.hears in
          let more : History C = found.0 in
          let now : History C = me.0.seen ++ more in
          let w : Known C V = record me.0 { numbers = voices me.0; seen = now; brought = []; told = [] } in
          let voiced : voices w ≡ voices me.0 = append-nil (voices me.0) in
          let voiced_length : length (voices w) ≡ length (voices me.0) = ap length voiced in
          let silent : (n : ℕ) → 0 < times n me.0.numbers → own n more ≡ [] =
          λ n speaks. none_more n me.0.seen more k.whole found.2 (was.own_seen n speaks) in
          let told : (n : ℕ) → 0 < times n me.0.brought → GoesOn n me.0.told now × (own n k.whole ≡ own n now) =
          λ n speaks. between n me.0.told now k.whole found.1 found.2 (was.own_told n speaks) in (
            w,
            keeps,
            tt,
            quiet_step s k id me.0 w here (not_served me.0.stage idle) (not_served me.0.stage idle) (λ n has. has)
                (λ n has. has)
                (counts_set passes k.ticket k.ticket s.views id me.0 w here k.counts
                (let sums = sum_set (λ (view : Known C V). is_cleared view.stage) s.views id me.0 w here in
                omega (arith, sums, k.counts.room)) (omega (arith, voiced_length))
                (λ n. let e : times n (voices w) ≡ times n (voices me.0) = ap (times n) voiced in omega (arith, e)))
                (record {
                  about = was.about;
                  worn = was.worn;
                  sees = found.2;
                  hears = (k.whole, refl);
                  below = λ n speaks. was.below n (let e : times n (voices w) ≡ times n (voices me.0) =
                      ap (times n) voiced in omega (arith, e, speaks));
                  own_seen = λ n speaks. dite (dec_le 1 (times n me.0.numbers))
                      (λ seen. (between n me.0.seen now k.whole (more, refl) found.2
                      (was.own_seen n (omega (arith, seen)))).1)
                      (λ other. (told n (omega (arith, other, speaks, times-append n me.0.numbers me.0.brought))).1);
                  own_told = λ n speaks. absurd (omega (arith, speaks));
                  stage = subst (λ (stage : SeatStage). StageOk k.serving k.ticket k.whole now (voices me.0) stage)
                      (sym idle) tt;
                }),
            (
              more,
              refl,
              refl,
              found.1,
              silent,
              (λ n speaks. (told n speaks).0),
              (λ v e. subst (λ (y : Z). IsLegal (fits y) now) (sym (was.about v e))
                  (legal_front (fits z) now found.2.0
                  (subst (λ (h : History C). IsLegal (fits z) h) found.2.1 k.legal))),
            ),
          )
