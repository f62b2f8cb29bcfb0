-- A caller at its places, whatever it does there.
use Rattle.std.specs.Prelude.{ℕ, List}
use Rattle.session_model.specs.Run.{Histories}
use Rattle.caster_places.specs.Known.{Known}

-- its number, what is known of its places, what they have seen, by how many turns each is worn, and
-- its work
pub record SeatedTold (X : Type 0) : Type 0 where
  pub number : ℕ
  pub known : Known
  pub seen : Histories
  pub worn : List ℕ
  pub work : X

-- of these, in that order
abbrev pub seated_told : {X : Type 0} → ℕ → Known → Histories → List ℕ → X → SeatedTold X
seated_told number known seen worn work = record {
  number = number;
  known = known;
  seen = seen;
  worn = worn;
  work = work;
}

-- the same with its work as it is told
abbrev pub with_work : {X Y : Type 0} → (X → Y) → SeatedTold X → SeatedTold Y
with_work tell hand = seated_told hand.number hand.known hand.seen hand.worn (tell hand.work)
