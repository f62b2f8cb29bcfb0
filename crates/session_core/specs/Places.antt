-- What contracts say of the places of a connection: one at the ring of each mountpoint, and one at
-- the book of accounts. What the places are asked for is given as T.Turns and B.Turns.
use Rattle.std.specs.Prelude.{ℕ, Bool, List}
use Rattle.turn_log.specs.declared.place.Turns.{Ghosts}
use Rattle.caster_accounts.specs.declared.book.Book.{Book}
use Rattle.caster_accounts.specs.declared.call.BookCall.{BookCall}
use Rattle.caster_accounts.specs.declared.call.BookAnswer.{BookAnswer}
use Rattle.source_session.specs.Places.{Stays}
pub use Rattle.rover_session.specs.Places.{AtRing, StayAtRings}
use Rattle.session_model.specs.Run.{Histories}
use Rattle.session_model.specs.Called.{seen_at, alone_at}
use Rattle.session_core.specs.Beginnings.{lacks_at, worn_at}
use Rattle.session_core.specs.declared.places.Places.{Places}

-- what places of this type tell, at the book
abbrev pub AtBook : Type 0 → Type 1
AtBook P = Ghosts P Book BookCall BookAnswer (Unit {0}) (List ℕ)

-- what the places have seen
abbrev pub seen_in : {P B : Type 0} → AtRing P → AtBook B → Places P B → Histories
seen_in ring book places = seen_at ring.seen book.seen places.rings.items places.book

-- whether nobody but the callers of these places takes turns at any of them
abbrev pub alone_in : {P B : Type 0} → AtRing P → AtBook B → Places P B → Bool
alone_in ring book places = alone_at ring.alone book.alone places.rings.items places.book

-- by how many turns each place is worn, that at the book the last
abbrev pub worn_in : {P B : Type 0} → AtRing P → AtBook B → Places P B → List ℕ
worn_in ring book places = worn_at ring.worn book.worn places.rings.items places.book

-- which of the places may lack memory, that at the book the last
abbrev pub lacks_in : {P B : Type 0} → AtRing P → AtBook B → Places P B → List Bool
lacks_in ring book places = lacks_at ring.may_lack book.may_lack places.rings.items places.book

-- ---- places stay themselves: they are at the same objects, speak for the same callers, and may
-- lack memory and are alone as before. They have seen more at most, and are worn no less.

pub record Stay {P B : Type 0} (ring : AtRing P) (book : AtBook B) (old now : Places P B)
    : Type 0 where
  pub at_rings : StayAtRings ring old.rings.items now.rings.items
  pub at_book : Stays book old.book now.book
