-- What each step at the lock's table tells the seat that takes it, from the word that it found, and
-- the seat before and after.
use Rattle.std.specs.Prelude.{◌≡◌, ◌≢◌, ℕ, ◌^◌, ◌<◌, ◌≤◌, Bool, [], ◌∷◌, ◌++◌, length, max, take, drop, Some, None}
use Rattle.atomic_table.specs.Table.{Me}
use Rattle.turn_log.specs.declared.lock.rule.SeatStage.TheVariants.{Idle, Cleared, Waiting, AtTurn}
use Rattle.turn_log.specs.declared.lock.rule.Known.{Known}
use Rattle.turn_log.specs.declared.lock.rule.Held.{Held}
use Rattle.turn_log.specs.History.{History, IsLegal, GoesOn, own}
use Rattle.turn_log.specs.LockRule.{Begins, times, voices}

-- a seat at the lock: what it knows, and the slot that is lent to it
abbrev pub Seated : Type 0 → Type 0 → Type 0
Seated C V = Me (Held V C) (Known C V)

-- the next ticket: below 2 ^ 62 the seat may draw, and else it notes how worn the lock is
abbrev pub clears : {C V : Type 0} → Seated C V → ℕ → Seated C V → Type 0
clears me n now =
    (n < 2 ^ 62 → now.0 ≡ record me.0 { stage = Cleared })
    × (2 ^ 62 ≤ n → now.0 ≡ record me.0 { worn = n })
    × (now.1 ≡ me.1) × (me.0.worn ≤ n)

-- the ticket
abbrev pub draws : {C V : Type 0} → Seated C V → ℕ → Seated C V → Type 0
draws me n now = (now.0 ≡ record me.0 { stage = Waiting n }) × (now.1 ≡ me.1)

-- The seat is served: it has seen the whole history, which went on without its callers, and the
-- object is lent to it.
abbrev pub Took : {C V Z : Type 0} → (V → History C → Type 0) → (V → Z)
    → (Z → History C → ℕ → C → Bool) → ℕ → Seated C V → Seated C V → Type 0
Took {C} {V} stands shape fits t me now =
    (held : Held V C) × (more : History C)
    × (now ≡ (record me.0 { stage = AtTurn t; seen = me.0.seen ++ more }, (0, held) ∷ []))
    × stands held.value (me.0.seen ++ more)
    × ((v : V) → me.0.about ≡ Some v
    → (shape held.value ≡ shape v) × IsLegal (fits (shape v)) (me.0.seen ++ more))
    × (length (me.0.seen ++ more) < 2 ^ 63)
    × ((k : ℕ) → 0 < times k me.0.numbers → own k more ≡ [])

-- the ticket that is served: the seat's own, or it waits on
abbrev pub looks : {C V Z : Type 0} → (V → History C → Type 0) → (V → Z)
    → (Z → History C → ℕ → C → Bool) → Seated C V → ℕ → Seated C V → Type 0
looks stands shape fits me n now =
    (t : ℕ) → me.0.stage ≡ Waiting t
    → (n ≡ t → Took stands shape fits t me now) × (n ≢ t → now ≡ me)

-- A whole turn: calls of others may have come first, and then came this call, which was answered at
-- that point of the history. For the rest the seat knows what it knew.
abbrev pub TookTurn : {V C A R Z : Type 0} → (V → Z) → (Z → History C → ℕ → C → Bool)
    → (Z → History C → ℕ → C → A) → (Z → History C → ℕ → C → R → R)
    → Known C V → Known C V → ℕ → C → A → R → R → Type 0
TookTurn {V} {C} shape fits answer filled old now me call reply before after =
    (others : History C)
    × (now ≡ record old { seen = (old.seen ++ others) ++ (me, call) ∷ [] })
    × (own me others ≡ [])
    × ((value : V) → old.about ≡ Some value
    → IsLegal (fits (shape value)) ((old.seen ++ others) ++ (me, call) ∷ [])
    × (reply ≡ answer (shape value) (old.seen ++ others) me call)
    × (after ≡ filled (shape value) (old.seen ++ others) me call before))

-- the next is served, and the history has the call that was made of the object
abbrev pub advances : {C V : Type 0} → Seated C V → Seated C V → Type 0
advances {C} {V} me now =
    (held : Held V C) (k : ℕ) (call : C) → me.1 ≡ (0, held) ∷ [] → held.last ≡ Some (k, call)
    → now ≡ (record me.0 { stage = Idle; seen = me.0.seen ++ (k, call) ∷ [] }, [])

-- The seat has seen its own history and that of the seat that was taken in, and speaks for both.
abbrev pub settles : {C V Z : Type 0} → (V → Z) → (Z → History C → ℕ → C → Bool)
    → Seated C V → Seated C V → Type 0
settles {C} {V} shape fits me now =
    (more : History C)
    × (now.0 ≡ record me.0 {
      numbers = voices me.0;
      seen = me.0.seen ++ more;
      brought = [];
      told = [];
    })
    × (now.1 ≡ me.1) × Begins me.0.told (me.0.seen ++ more)
    × ((k : ℕ) → 0 < times k me.0.numbers → own k more ≡ [])
    × ((k : ℕ) → 0 < times k me.0.brought → GoesOn k me.0.told (me.0.seen ++ more))
    × ((v : V) → me.0.about ≡ Some v → IsLegal (fits (shape v)) (me.0.seen ++ more))

-- a pass is dealt: it gets the first number that is left
abbrev pub after_deal : {C V : Type 0} → Known C V → Known C V
after_deal view = record view { numbers = drop 1 view.numbers }

abbrev pub dealt : {C V : Type 0} → Known C V → Known C V
dealt view = record view { numbers = take 1 view.numbers; brought = []; told = [] }

-- a note: the same was seen, and it speaks for nobody, and tells nothing of how worn the lock is
abbrev pub noted : {C V : Type 0} → Known C V → Known C V
noted view = record view { numbers = []; brought = []; told = []; worn = 0 }

-- A seat is taken in, and nothing is left to it. The lock is as worn as the one of both tells that
-- tells more.
abbrev pub met : {C V : Type 0} → Known C V → Known C V → Known C V
met view other = record view {
  brought = other.numbers;
  told = other.seen;
  worn = max view.worn other.worn;
}

abbrev pub spent : {C V : Type 0} → Known C V
spent = record {
  about = None;
  numbers = [];
  seen = [];
  brought = [];
  told = [];
  stage = Idle;
  worn = 0;
}
