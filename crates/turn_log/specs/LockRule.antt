-- The rule of the lock: what is true of its table between any two steps.
-- Word 0 is the ticket that is served, and word 1 the ticket that is drawn next. The one slot has
-- the object.
use Rattle.std.specs.Prelude.{◌≡◌, ℕ, zero, suc, Bool, ◌+◌, ◌^◌, ◌<◌, ◌≤◌, ◌==◌, ◌⊎◌, List, [], ◌∷◌, ◌++◌, length, sum_by, count_by, All, Some}
use mathlib.Core.Option.{some, none}
use mathlib.Core.Option as maybe
use lib.ListN.{get_elem?}
use Rattle.atomic_table.specs.Table.{State}
use Rattle.turn_log.specs.declared.lock.rule.SeatStage.{SeatStage}
use Rattle.turn_log.specs.declared.lock.rule.SeatStage.TheVariants.{Idle, Cleared, Waiting, AtTurn}
use Rattle.turn_log.specs.declared.lock.rule.Known.{Known}
use Rattle.turn_log.specs.declared.lock.rule.Held.{Held}
use Rattle.turn_log.specs.History.{History, IsLegal, own}

-- the first history is a beginning of the second
abbrev pub Begins : {C : Type 0} → History C → History C → Type 0
Begins {C} old now = (more : History C) × (now ≡ old ++ more)

-- how often a number stands in a list
abbrev pub times : ℕ → List ℕ → ℕ
times k ns = count_by (λ n. n == k) ns

-- all callers that a seat speaks for
abbrev pub voices : {C V : Type 0} → Known C V → List ℕ
voices view = view.numbers ++ view.brought

-- the seat has this ticket
abbrev pub HasTicket : SeatStage → ℕ → Type 0
HasTicket Idle n = ⊥
HasTicket Cleared n = ⊥
HasTicket (Waiting t) n = t ≡ n
HasTicket (AtTurn t) n = t ≡ n

-- some seat has this ticket
abbrev pub HasHolder : {C V : Type 0} → List (Known C V) → ℕ → Type 0
HasHolder {C} {V} views n =
    (id : ℕ) × (view : Known C V) × (get_elem? views id ≡ some view) × HasTicket view.stage n

-- 1 where the seat may draw a ticket, else 0
abbrev pub is_cleared : SeatStage → ℕ
is_cleared Idle = 0
is_cleared Cleared = 1
is_cleared (Waiting t) = 0
is_cleared (AtTurn t) = 0

-- Who draws or waits speaks for some caller. A ticket that a seat has was drawn and not served; at
-- its turn it is the one that is served, and the seat has seen the whole history.
module _ {C : Type 0} (serving ticket : ℕ) (whole seen : History C) (numbers : List ℕ) where
  abbrev pub StageOk : SeatStage → Type 0
  StageOk Idle = Unit {0}
  StageOk Cleared = 0 < length numbers
  StageOk (Waiting t) = (serving ≤ t) × (t < ticket) × (0 < length numbers)
  StageOk (AtTurn t) = (t ≡ serving) × (t < ticket) × (0 < length numbers) × (seen ≡ whole)

-- What is true of what one seat knows, where the whole history is this one.
pub record ViewOk {C V Z : Type 0} (shape : V → Z) (z : Z) (passes serving ticket : ℕ)
    (whole : History C) (view : Known C V) : Type 0 where
  pub about : (v : V) → view.about ≡ Some v → shape v ≡ z
  pub worn : view.worn ≤ ticket
  pub sees : Begins view.seen whole
  pub hears : Begins view.told whole
  pub below : (k : ℕ) → 0 < times k (voices view) → k < passes
  -- no call of a caller is unknown to the seat that speaks for it
  pub own_seen : (k : ℕ) → 0 < times k view.numbers → own k whole ≡ own k view.seen
  pub own_told : (k : ℕ) → 0 < times k view.brought → own k whole ≡ own k view.told
  pub stage : StageOk serving ticket whole view.seen view.numbers view.stage

-- Few tickets are left to be drawn, and each caller is spoken for once.
pub record Counts {C V : Type 0} (passes ticket : ℕ) (views : List (Known C V)) : Type 0 where
  pub room : ticket + sum_by (λ view. is_cleared view.stage) views ≤ 2 ^ 62 + passes
  pub parts : sum_by (λ view. length (voices view)) views ≤ passes
  pub once : (k : ℕ) → sum_by (λ view. times k (voices view)) views ≤ 1

-- Nobody is at its turn, the object is in the slot and stands for the whole history; or somebody
-- is, and has it.
abbrev pub Lies : {C V Z : Type 0} → (V → History C → Type 0) → (V → Z) → Z → History C
    → List (maybe.Option (Held V C)) → List (Known C V) → Type 0
Lies {C} {V} stands shape z whole homes views =
    ((held : Held V C) × (homes ≡ some held ∷ []) × stands held.value whole × (shape held.value ≡ z)
    × ((id : ℕ) (view : Known C V) (t : ℕ)
    → get_elem? views id ≡ some view → view.stage ≡ AtTurn t → ⊥))
    ⊎ ((homes ≡ none ∷ []) × ((id : ℕ) × (view : Known C V) × (t : ℕ)
    × (get_elem? views id ≡ some view) × (view.stage ≡ AtTurn t)))

-- the rule, with the words, the history and what it says of the seats
pub record Kept {C V Z : Type 0} (passes : ℕ) (stands : V → History C → Type 0) (shape : V → Z)
    (fits : Z → History C → ℕ → C → Bool) (z : Z) (s : State (Held V C) (Known C V)) : Type 0 where
  pub serving : ℕ
  pub ticket : ℕ
  pub whole : History C
  pub few : passes < 2 ^ 32
  pub words : s.words ≡ serving ∷ ticket ∷ []
  pub long : length whole ≡ serving
  pub behind : serving ≤ ticket
  pub legal : IsLegal (fits z) whole
  pub numbered : All (λ entry. entry.0 < passes) whole
  pub counts : Counts passes ticket s.views
  pub each : (id : ℕ) (view : Known C V) → get_elem? s.views id ≡ some view
      → ViewOk shape z passes serving ticket whole view
  -- each number from the word that is served up to the word that is drawn is some seat's ticket,
  pub drawn : (n : ℕ) → serving ≤ n → n < ticket → HasHolder s.views n
  -- and no two seats have one ticket
  pub apart : (i j : ℕ) (v w : Known C V) (n : ℕ)
      → get_elem? s.views i ≡ some v → get_elem? s.views j ≡ some w
      → HasTicket v.stage n → HasTicket w.stage n → i ≡ j
  pub lies : Lies stands shape z whole s.homes s.views

-- the numbers from the first on, so many
abbrev pub from : ℕ → ℕ → List ℕ
from first zero = []
from first (suc n) = first ∷ from (first + 1) n

-- the first seat speaks for all callers, and has seen nothing
abbrev pub maker : {C V : Type 0} → V → ℕ → Known C V
maker value passes = record {
  about = Some value;
  numbers = from 0 passes;
  seen = [];
  brought = [];
  told = [];
  stage = Idle;
  worn = 0;
}
