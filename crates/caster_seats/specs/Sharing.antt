-- What the workers of a caster share, and the passes with which they sit down at its locks.
use Rattle.std.specs.Prelude.{◌≡◌, ℕ, Bool, IsTrue, List, [], length, map, Option, None, Some}
use Rattle.std.specs.List.{All}
use mathlib.Core.Option.{some}
use lib.ListN.{get_elem?}
use Rattle.mount_ring.specs.declared.shape.RingShape.{RingShape}
use Rattle.mount_ring.specs.Kept.{ring_shape}
use Rattle.caster_accounts.specs.Kept.{caps_of}
use Rattle.turn_log.specs.declared.object.Played.{Ghosts}
use Rattle.turn_log.specs.declared.lock.parts.Turn.{Turn}
use Rattle.turn_log.specs.declared.lock.parts.Pass.{Pass}
use Rattle.turn_log.specs.Lock.{turn_value, turn_passes, pass_number, pass_seen, IsPassOf}
use Rattle.cast_config.specs.declared.config.Group.{Group}
use Rattle.cast_config.specs.declared.config.Mount.{Mount}
use Rattle.cast_config.specs.Served.{filters_of}
use Rattle.cast_config.specs.Kept.{KeepsRules}
use Rattle.session_model.specs.Run.{Histories}
use Rattle.session_model.specs.Setting.{shapes, caps, table}
use Rattle.caster_places.specs.Piles.{AreMatched}
use Rattle.caster_seats.specs.declared.shared.Shared.{Shared}
use Rattle.caster_seats.specs.declared.shared.Passes.{Passes}

-- ---- what is shared

-- It is of a configuration that keeps its rules: its table is the text of the sourcetable, and its
-- locks are those of the rings of the mountpoints, in order, and of the book.
pub record IsReady (shared : Shared) : Type 0 where
  pub kept : (cap : ℕ) × KeepsRules cap shared.config.now
  pub table_is : shared.table.items ≡ table shared.config.now
  pub shapes_are : map (λ turn. ring_shape (turn_value turn)) shared.rings.items
      ≡ shapes shared.config.now
  pub caps_are : caps_of (turn_value shared.book) ≡ caps shared.config.now

-- its locks were opened for so many passes
pub record AreOpenFor (passes : ℕ) (shared : Shared) : Type 0 where
  pub rings : All (λ turn. turn_passes turn ≡ passes) shared.rings.items
  pub book : turn_passes shared.book ≡ passes

-- the ring of the mountpoint of this number
abbrev pub ring_of : List Group → ℕ → Option Mount → RingShape
ring_of groups n None = record { capacity = 0; filters = [] }
ring_of groups n (Some mount) =
    record { capacity = mount.ring; filters = filters_of groups n }

-- ---- passes

module _ {V C A R S : Type 0} {g : Ghosts V C A R S} where
  -- a pass of this lock under this number, which has seen nothing
  pub record IsNewPass (number : ℕ) (pass : Pass V C A R S g) (turn : Turn V C A R S) : Type 0 where
    pub numbered : pass_number pass ≡ number
    pub unseen : pass_seen pass ≡ []
    pub here : IsPassOf pass turn

  -- so many passes of this lock, numbered from 0, which have seen nothing
  pub record AreDealt (count : ℕ) (passes : List (Pass V C A R S g)) (turn : Turn V C A R S)
      : Type 0 where
    pub size : length passes ≡ count
    pub each : (i : ℕ) (pass : Pass V C A R S g) → get_elem? passes i ≡ some pass
        → IsNewPass i pass turn

-- each of these places speaks for this caller
abbrev pub AllSay : ℕ → List (ℕ → Bool) → Type 0
AllSay number = All (λ (speaks : ℕ → Bool). IsTrue (speaks number))

-- one pass of each lock, all of this number
pub record ArePassesOf (number : ℕ) (passes : Passes) (shared : Shared) : Type 0 where
  pub rings : AreMatched IsPassOf passes.rings.items shared.rings.items
  pub numbered : All (λ pass. pass_number pass ≡ number) passes.rings.items
  pub book : IsPassOf passes.book shared.book
  pub book_numbered : pass_number passes.book ≡ number

-- what they have seen
abbrev pub seen_by : Passes → Histories
seen_by passes = record {
  rings = map pass_seen passes.rings.items;
  book = pass_seen passes.book;
}

-- the same, which have seen nothing
pub record AreNewPasses (number : ℕ) (passes : Passes) (shared : Shared) : Type 0 where
  pub rings : AreMatched (IsNewPass number) passes.rings.items shared.rings.items
  pub book : IsNewPass number passes.book shared.book
