-- Laws of what one caller's calls added to a history.
use Rattle.std.proofs.Common.{◌≡◌, ◌≢◌, ℕ, Bool, true, false, IsTrue, cond, List, [], ◌∷◌, ◌++◌, refl, sym, ◌∙◌, ap, subst, eqb, eq-eqb, append_assoc}
use Rattle.std.proofs.lemmas.List.{append-nil, append_cancel_left, map-append}
use Rattle.turn_log.specs.History.{History, own, entries_of, GoesOn}
use Rattle.turn_log.specs.Turn.{Turned}
use Rattle.turn_log.specs.Heard.{told, calls_in, Heard, HeardFirst}
use Rattle.turn_log.proofs.HistoryLaws.{own_else}

-- the calls with their answers

pub told-append : {C A : Type 0} (answer : History C → ℕ → C → A) (me : ℕ) (before a b : History C)
    → told answer me before (a ++ b) ≡ told answer me before a ++ told answer me (before ++ a) b
told-append answer me before [] b = ap (λ h. told answer me h b) (sym (append-nil before))
told-append {C} {A} answer me before (e ∷ a) b =
    let on = before ++ e ∷ [] in
    let rest = told-append answer me on a b
    ∙ ap (λ h. told answer me on a ++ told answer me h b) (append_assoc before (e ∷ []) a) in
    let first : C × A = (e.1, answer before me e.1) in
    elim (eqb e.0 me) as (λ t. cond t (first ∷ told answer me on (a ++ b)) (told answer me on (a ++ b))
    ≡ cond t (first ∷ told answer me on a) (told answer me on a) ++ told answer me (before ++ e ∷ a) b) [
      | true ↦ ap (λ pairs. first ∷ pairs) rest
      | false ↦ rest
    ]

-- the calls that are told are the caller's own
pub calls_told : {C A : Type 0} (answer : History C → ℕ → C → A) (me : ℕ) (before more : History C)
    → calls_in (told answer me before more) ≡ own me more
calls_told answer me before [] = refl
calls_told answer me before (e ∷ more) =
    let on = before ++ e ∷ [] in
    let rest = calls_told answer me on more in
    elim (eqb e.0 me) as (λ t. calls_in (cond t ((e.1, answer before me e.1) ∷ told answer me on more)
    (told answer me on more))
    ≡ cond t (e.1 ∷ own me more) (own me more)) [
      | true ↦ ap (λ calls. e.1 ∷ calls) rest
      | false ↦ rest
    ]

-- no call, no pair
pub no_pairs : {C A : Type 0} (pairs : List (C × A)) → calls_in pairs ≡ [] → pairs ≡ []
no_pairs [] none = refl
no_pairs (p ∷ ps) none = absurd cc

-- entries of others tell this caller nothing
pub told_none : {C A : Type 0} (answer : History C → ℕ → C → A) (me : ℕ) (before more : History C)
    → own me more ≡ [] → told answer me before more ≡ []
told_none answer me before more none =
    no_pairs (told answer me before more) (calls_told answer me before more ∙ none)

-- one call of the caller's own
pub told_mine : {C A : Type 0} (answer : History C → ℕ → C → A) (me : ℕ) (before : History C) (call : C)
    → told answer me before ((me, call) ∷ []) ≡ (call, answer before me call) ∷ []
told_mine answer me before call =
    ap (λ t. cond t ((call, answer before me call) ∷ []) []) (eq-eqb me me refl)

-- the same of a history that is known by an equation
told_at : {C A : Type 0} (answer : History C → ℕ → C → A) (me : ℕ) (a b more : History C)
    → a ≡ b → told answer me a more ≡ told answer me b more
told_at answer me a b more same = ap (λ h. told answer me h more) same

-- entries of one call after another
pub entries-append : {C A : Type 0} (me : ℕ) (xs ys : List (C × A))
    → entries_of me (calls_in (xs ++ ys)) ≡ entries_of me (calls_in xs) ++ entries_of me (calls_in ys)
entries-append me xs ys =
    ap (entries_of me) (map-append (λ p. p.0) xs ys)
    ∙ map-append (λ call. (me, call)) (calls_in xs) (calls_in ys)

-- what was heard

pub heard_none : {C A : Type 0} (alone : Bool) (answer : History C → ℕ → C → A) (h : History C) (me : ℕ)
    → Heard alone answer h h me []
heard_none alone answer h me =
    record { more = []; seen = sym (append-nil h); mine = refl; nothing_else = λ is. refl }

pub heard_both : {C A : Type 0} (alone : Bool) (answer : History C → ℕ → C → A) (a b c : History C) (me : ℕ)
    (xs ys : List (C × A))
    → Heard alone answer a b me xs → Heard alone answer b c me ys → Heard alone answer a c me (xs ++ ys)
heard_both alone answer a b c me xs ys x y = record {
  more = x.more ++ y.more;
  seen = y.seen ∙ ap (λ h. h ++ y.more) x.seen ∙ append_assoc a x.more y.more;
  mine = told-append answer me a x.more y.more
      ∙ ap (λ pairs. pairs ++ told answer me (a ++ x.more) y.more) x.mine
      ∙ ap (λ pairs. xs ++ pairs) (told_at answer me (a ++ x.more) b y.more (sym x.seen) ∙ y.mine);
  nothing_else = λ is. ap (λ h. h ++ y.more) (x.nothing_else is)
      ∙ ap (λ h. entries_of me (calls_in xs) ++ h) (y.nothing_else is)
      ∙ sym (entries-append me xs ys);
}

-- a turn is one call of the caller
pub heard_turn : {C A R : Type 0} {alone : Bool} {fits : History C → ℕ → C → Bool}
    {answer : History C → ℕ → C → A} {filled : History C → ℕ → C → R → R}
    {old now : History C} {me : ℕ} {call : C} {reply : A} {before after : R}
    → Turned alone fits answer filled old now me call reply before after
    → Heard alone answer old now me ((call, reply) ∷ [])
heard_turn {answer} {old} {me} {call} t = record {
  more = t.others ++ (me, call) ∷ [];
  seen = t.seen ∙ append_assoc old t.others ((me, call) ∷ []);
  mine = told-append answer me old t.others ((me, call) ∷ [])
      ∙ ap (λ pairs. pairs ++ told answer me (old ++ t.others) ((me, call) ∷ []))
      (told_none answer me old t.others t.none_of_mine)
      ∙ told_mine answer me (old ++ t.others) call
      ∙ ap (λ reply. (call, reply) ∷ []) (sym t.answered);
  nothing_else = λ is. ap (λ h. h ++ (me, call) ∷ []) (t.nothing_between is);
}

-- entries of others change nothing of it
pub heard_on : {C A : Type 0} (alone : Bool) (answer : History C → ℕ → C → A) (a b c : History C) (me : ℕ)
    (pairs : List (C × A))
    → Heard alone answer a b me pairs → GoesOn me b c → (IsTrue alone → c ≡ b) → Heard alone answer a c me pairs
heard_on alone answer a b c me pairs x goes same = record {
  more = x.more ++ goes.0;
  seen = goes.1 ∙ ap (λ h. h ++ goes.0) x.seen ∙ append_assoc a x.more goes.0;
  mine = told-append answer me a x.more goes.0
      ∙ ap (λ l. l ++ told answer me (a ++ x.more) goes.0) x.mine
      ∙ ap (λ l. pairs ++ l) (told_none answer me (a ++ x.more) goes.0 goes.2)
      ∙ append-nil pairs;
  nothing_else = λ is.
      let none : goes.0 ≡ [] =
      append_cancel_left b goes.0 [] (sym goes.1 ∙ same is ∙ sym (append-nil b)) in
      ap (λ h. x.more ++ h) none ∙ append-nil x.more ∙ x.nothing_else is;
}

-- what holds at a place that is alone holds where less is claimed
pub heard_less : {C A : Type 0} (alone less : Bool) (answer : History C → ℕ → C → A) (old now : History C) (me : ℕ)
    (pairs : List (C × A))
    → (IsTrue less → IsTrue alone) → Heard alone answer old now me pairs → Heard less answer old now me pairs
heard_less alone less answer old now me pairs from x =
    record { more = x.more; seen = x.seen; mine = x.mine; nothing_else = λ is. x.nothing_else (from is) }

-- The same by other names of equal things. A turn leaves alone and shape as they were, which
-- generic code knows by equations: `heard_same same.3 (ap answer same.0)`.
pub heard_same : {C A : Type 0} {alone still : Bool} {answer said : History C → ℕ → C → A}
    {old now : History C} {me : ℕ} {pairs : List (C × A)}
    → still ≡ alone → said ≡ answer → Heard still said old now me pairs → Heard alone answer old now me pairs
heard_same {C} {A} {alone} {still} {answer} {said} {old} {now} {me} {pairs} same names x =
    subst (λ a. Heard a answer old now me pairs) same
    (subst (λ f. Heard still f old now me pairs) names x)

-- a place that is alone

pub heard_alone : {C A : Type 0} {answer : History C → ℕ → C → A} {old now : History C} {me : ℕ} {pairs : List (C × A)}
    → Heard true answer old now me pairs → now ≡ old ++ entries_of me (calls_in pairs)
heard_alone {old} x = x.seen ∙ ap (λ h. old ++ h) (x.nothing_else refl)

-- what one caller does there is nothing of any other
pub heard_others : {C A : Type 0} (answer : History C → ℕ → C → A) (me by : ℕ) (old now : History C)
    (pairs : List (C × A))
    → by ≢ me → Heard true answer old now by pairs → GoesOn me old now
heard_others answer me by old now pairs other x =
    (x.more, x.seen, ap (own me) (x.nothing_else refl) ∙ own_else me by (calls_in pairs) other)

-- the first answer there is that of the first history
pub heard_first : {C A : Type 0} (answer : History C → ℕ → C → A) (old now : History C) (me : ℕ) (call : C) (reply : A)
    (pairs : List (C × A))
    → Heard true answer old now me ((call, reply) ∷ pairs)
    → (reply ≡ answer old me call) × Heard true answer (old ++ (me, call) ∷ []) now me pairs
heard_first {C} {A} answer old now me call reply pairs x =
    let rest : History C = entries_of me (calls_in pairs) in
    let on : History C = old ++ (me, call) ∷ [] in
    let first : C × A = (call, answer old me call) in
    let more : x.more ≡ (me, call) ∷ rest = x.nothing_else refl in
    let told_now : first ∷ told answer me on rest ≡ (call, reply) ∷ pairs =
    sym (ap (λ t. cond t (first ∷ told answer me on rest) (told answer me on rest)) (eq-eqb me me refl))
    ∙ ap (told answer me old) (sym more) ∙ x.mine in
    let heads : first ≡ (call, reply) = cc in
    let tails : told answer me on rest ≡ pairs = cc in (
      sym (ap (λ (p : C × A). p.1) heads),
      record {
        more = rest;
        seen = x.seen ∙ ap (λ h. old ++ h) more ∙ sym (append_assoc old ((me, call) ∷ []) rest);
        mine = tails;
        nothing_else = λ is. refl;
      },
    )

-- one call that nobody came before
pub heard_call : {C A : Type 0} (alone : Bool) (answer : History C → ℕ → C → A) (h : History C) (me : ℕ) (call : C)
    → Heard alone answer h (h ++ (me, call) ∷ []) me ((call, answer h me call) ∷ [])
heard_call alone answer h me call = record {
  more = (me, call) ∷ [];
  seen = refl;
  mine = told_mine answer me h call;
  nothing_else = λ is. refl;
}

-- the first of some calls

pub first_none : {C A : Type 0} (alone : Bool) (answer : History C → ℕ → C → A) (h : History C) (me : ℕ)
    (calls : List C)
    → HeardFirst alone answer h h me calls
first_none alone answer h me calls =
    record { pairs = []; unmade = calls; split = refl; heard = heard_none alone answer h me }

pub first_some : {C A : Type 0} {alone : Bool} {answer : History C → ℕ → C
    → A} {old now : History C} {me : ℕ} {pairs : List (C × A)} (unmade : List C)
    → Heard alone answer old now me pairs → HeardFirst alone answer old now me (calls_in pairs ++ unmade)
first_some {pairs} unmade x = record { pairs = pairs; unmade = unmade; split = refl; heard = x }

-- calls that were made, and then a refusal
pub first_refused : {C A : Type 0} {alone : Bool} {answer : History C → ℕ → C
    → A} {old mid now : History C} {me : ℕ} {pairs : List (C × A)} (unmade : List C)
    → Heard alone answer old mid me pairs → now ≡ mid → HeardFirst alone answer old now me (calls_in pairs ++ unmade)
first_refused {C} {A} {alone} {answer} {old} {mid} {now} {me} {pairs} unmade x same =
    subst (λ h. HeardFirst alone answer old h me (calls_in pairs ++ unmade)) (sym same) (first_some unmade x)
