-- What all callers of a caster have seen, and what it came to when its locks were closed.
use Rattle.std.specs.Prelude.{◌≡◌, ℕ, suc, ◌<◌, ◌≤◌, Bool, IsTrue, List, [], ◌∷◌, length, map, vec_capacity}
use Rattle.std.specs.List.{All}
use mathlib.Core.Option.{some}
use lib.ListN.{get_elem?}
use Rattle.turn_log.specs.declared.lock.parts.Turn.{Turn}
use Rattle.turn_log.specs.History.{History, own}
use Rattle.turn_log.specs.Lock.{turn_value, turn_home}
use Rattle.mount_ring.specs.Kept.{ring_shape}
use Rattle.mount_ring.specs.declared.call.RingCall.{RingCall}
use Rattle.mount_ring.specs.declared.call.RingAnswer.{RingAnswer}
use Rattle.mount_ring.specs.declared.outbox.Outbox.{Outbox}
use Rattle.mount_ring.specs.declared.ring.Ring.{Ring}
use Rattle.mount_ring.specs.declared.shape.RingShape.{RingShape}
use Rattle.caster_accounts.specs.Kept.{caps_of}
use Rattle.caster_accounts.specs.Sums.{nothing}
use Rattle.caster_accounts.specs.declared.account.Sum.{Sum}
use Rattle.caster_accounts.specs.declared.book.Book.{Book}
use Rattle.caster_accounts.specs.declared.call.BookAnswer.{BookAnswer}
use Rattle.caster_accounts.specs.declared.call.BookCall.{BookCall}
use Rattle.session_calls.specs.Rings.{history_at}
use Rattle.session_model.specs.Run.{Histories}
use Rattle.cast_config.specs.declared.config.Config.{Config}
use Rattle.caster_places.specs.declared.pass_piles.PassPiles.{PassPiles}
use Rattle.caster_places.specs.declared.totals.Totals.{Totals}
use Rattle.caster_places.specs.Known.{Known}
use Rattle.caster_places.specs.Leaves.{left_in}
use Rattle.caster_places.specs.Piles.{AreMatched, AreWithin, HasRoom, IsPile, IsWhole}

-- the locks of the rings, in the order of the mountpoints
abbrev pub RingLocks : Type 0
RingLocks = List (Turn Ring RingCall RingAnswer Outbox RingShape)

-- the lock of the book
abbrev pub BookLock : Type 0
BookLock = Turn Book BookCall BookAnswer (Unit {0}) (List ℕ)

-- ---- leaving

-- the places of which this is known are at these locks, and speak for this caller
pub record AreAt (number : ℕ) (known : Known) (ring_locks : RingLocks)
    (book_lock : BookLock) : Type 0 where
  pub speaks : All (λ (says : ℕ → Bool). IsTrue (says number)) known.speaks
  pub book_speaks : IsTrue (known.book_speaks number)
  pub homes : known.homes ≡ map turn_home ring_locks
  pub shapes : known.shapes_are ≡ map (λ lock. ring_shape (turn_value lock)) ring_locks
  pub book_home : known.book_home ≡ turn_home book_lock
  pub caps : known.caps_are ≡ caps_of (turn_value book_lock)

-- what the callers have seen of one mountpoint
abbrev pub seen_of : List Histories → ℕ → List (History RingCall)
seen_of rows mount = map (λ (row : Histories). history_at row.rings mount) rows

-- what they have seen of the book
abbrev pub seen_in_book : List Histories → List (History BookCall)
seen_in_book rows = map (λ (row : Histories). row.book) rows

-- the piles hold the passes of callers numbered from 0, which have seen this: of each lock one pass
-- of each caller, in the order of their numbers
pub record ArePiles (rows : List Histories) (piles : PassPiles) (ring_locks : RingLocks)
    (book_lock : BookLock) : Type 0 where
  pub size : length piles.rings.items ≡ length ring_locks
  pub rings : (mount : ℕ) (pile : _) (lock : _) → get_elem? piles.rings.items mount ≡ some pile
      → get_elem? ring_locks mount ≡ some lock → IsPile (seen_of rows mount) pile.items lock
  pub book : IsPile (seen_in_book rows) piles.book.items book_lock

-- each pile has room for the passes of so many more callers
pub record HaveRoom (callers : ℕ) (piles : PassPiles) : Type 0 where
  pub rings : All (HasRoom callers) piles.rings.items
  pub book : HasRoom callers piles.book

-- no pass of the piles met its lock worn by more turns than these, one number for each mountpoint
-- and one for the book
pub record AreWornWithin (mounts : List ℕ) (book : ℕ) (piles : PassPiles) : Type 0 where
  pub rings : AreMatched (λ pile most. AreWithin most pile.items) piles.rings.items mounts
  pub book_within : AreWithin book piles.book.items

-- ---- closing

-- the whole histories of a caster of so many mountpoints, whose callers have each seen this of them
pub record AreWhole (rows : List Histories) (whole : Histories) (mounts : ℕ) : Type 0 where
  pub size : length whole.rings ≡ mounts
  pub rings : (mount : ℕ) → mount < length whole.rings
      → IsWhole (seen_of rows mount) (history_at whole.rings mount)
  pub book : IsWhole (seen_in_book rows) whole.book

-- nothing was told yet, and there is room for each mountpoint and each named account
pub record IsRoomFor (c : Config) (totals : Totals) : Type 0 where
  pub no_mount : totals.mounts.items ≡ []
  pub mounts : length c.mount ≤ vec_capacity totals.mounts
  pub no_account : totals.accounts.items ≡ []
  pub accounts : length c.account ≤ vec_capacity totals.accounts

-- the sums of the sessions that each caller ended, of callers numbered from this number on
abbrev pub left_by : ℕ → List Histories → List Sum
left_by n [] = []
left_by n (row ∷ rows) = left_in nothing (own n row.book) ∷ left_by (suc n) rows
