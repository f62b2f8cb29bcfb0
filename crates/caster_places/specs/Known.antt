-- What no turn changes of the places of a connection, and what the places of a caster have to be.
use Rattle.std.specs.Prelude.{◌≡◌, ℕ, Bool, IsTrue, List, map}
use Rattle.std.specs.List.{All}
use base.Stored.{Gv}
use Rattle.mount_ring.specs.declared.shape.RingShape.{RingShape}
use Rattle.session_calls.specs.Rings.{AllLater}
use Rattle.cast_config.specs.declared.config.Config.{Config}
use Rattle.session_model.specs.Setting.{shapes, caps}

-- The shapes of the rings, in the order of their mountpoints, and the caps of the accounts; the
-- callers that the places speak for; whether they may lack memory; whether nobody else takes turns
-- there; and which objects they are at.
pub record Known : Type 0 where
  pub shapes_are : List RingShape
  pub caps_are : List ℕ
  pub speaks : List (ℕ → Bool)
  pub book_speaks : ℕ → Bool
  pub may_lack : List Bool
  pub book_may_lack : Bool
  pub alone : List Bool
  pub book_alone : Bool
  pub homes : List Gv
  pub book_home : Gv

-- of places of which this is known, one at each ring and one at the book
abbrev pub known_at : {P B : Type 0} → (P → RingShape) → (B → List ℕ) → (P → ℕ → Bool)
    → (B → ℕ → Bool) → (P → Bool) → (B → Bool) → (P → Bool) → (B → Bool) → (P → Gv) → (B → Gv)
    → List P → B → Known
known_at ring_shape book_shape ring_speaks book_speaks ring_may_lack book_may_lack ring_alone
    book_alone ring_home book_home rings book = record {
      shapes_are = map ring_shape rings;
      caps_are = book_shape book;
      speaks = map ring_speaks rings;
      book_speaks = book_speaks book;
      may_lack = map ring_may_lack rings;
      book_may_lack = book_may_lack book;
      alone = map ring_alone rings;
      book_alone = book_alone book;
      homes = map ring_home rings;
      book_home = book_home book;
    }

-- the places are those of a caster of this configuration, and each speaks for this caller
pub record Fit (c : Config) (me : ℕ) (known : Known) : Type 0 where
  pub shapes_fit : known.shapes_are ≡ shapes c
  pub caps_fit : known.caps_are ≡ caps c
  pub rings : All (λ (speaks : ℕ → Bool). IsTrue (speaks me)) known.speaks
  pub book : IsTrue (known.book_speaks me)

-- The places are those of which this was known, and none is worn less than before.
pub record StayKnown (old now : Known) (worn_before worn_after : List ℕ) : Type 0 where
  pub known : now ≡ old
  pub later : AllLater worn_before worn_after
