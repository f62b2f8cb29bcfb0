-- Callers at the seats of a caster's locks, in the order of their numbers, whatever they do there.
use Rattle.std.specs.Prelude.{◌≡◌, false, ℕ, ◌+◌, ◌≤◌, ⊤, List, [], ◌∷◌, ◌++◌, length, map, vec_len, vec_capacity, Vec}
use Rattle.std.specs.Global.{Global}
use Rattle.turn_log.specs.History.{IsLegal}
use Rattle.caster_accounts.specs.History.{fits}
use Rattle.caster_places.specs.Known.{Fit}
use Rattle.caster_places.specs.Rows.{AreAt, ArePiles, AreWornWithin, HaveRoom, RingLocks, BookLock}
use Rattle.caster_places.specs.declared.pass_piles.PassPiles.{PassPiles}
use Rattle.session_calls.specs.Rings.{AllLater}
use Rattle.session_model.specs.Run.{Histories, nothing_called}
use Rattle.caster_seats.specs.declared.shared.Shared.{Shared}
use Rattle.caster_seats.specs.SeatedCallers.{SeatedTold}
use Rattle.caster_link.specs.Wear.{lacks_in}

-- ---- sitting down

-- it sat down under this number with this work, and called nothing
pub record IsSeated {X : Type 0} (shared : Shared) (number : ℕ) (work : X) (hand : SeatedTold X)
    : Type 0 where
  pub numbered : hand.number ≡ number
  pub fit : Fit shared.config.now number hand.known
  pub at : AreAt number hand.known shared.rings.items shared.book
  -- a place at a lock never lacks memory
  pub full : lacks_in hand.known ≡ false
  pub uncalled : hand.seen ≡ nothing_called shared.config.now
  pub work_is : hand.work ≡ work

-- these callers sat down so, numbered from this number on, each with the work at the same place
abbrev pub AreSeated : {X : Type 0} → Shared → ℕ → List X → List (SeatedTold X) → Type 0
AreSeated shared n [] [] = ⊤
AreSeated shared n [] (hand ∷ hands) = ⊥
AreSeated shared n (work ∷ works) [] = ⊥
AreSeated shared n (work ∷ works) (hand ∷ hands) =
    IsSeated shared n work hand × AreSeated shared (n + 1) works hands

-- ---- leaving

-- callers numbered from this number on are at these locks
abbrev pub AreAllAt : {X : Type 0} → ℕ → List (SeatedTold X) → RingLocks → BookLock → Type 0
AreAllAt n [] ring_locks book_lock = ⊤
AreAllAt n (hand ∷ hands) ring_locks book_lock =
    AreAt n hand.known ring_locks book_lock × AreAllAt (n + 1) hands ring_locks book_lock

-- what they have seen
abbrev pub rows_of : {X : Type 0} → List (SeatedTold X) → List Histories
rows_of {X} hands = map (λ (hand : SeatedTold X). hand.seen) hands

-- The passes of these callers came to the piles of their locks, behind those of the callers before
-- them.
abbrev pub HaveLeft : {X : Type 0} → List (SeatedTold X) → PassPiles → PassPiles → Type 0
HaveLeft hands old new = (rows : List Histories) (ring_locks : RingLocks) (book_lock : BookLock)
    → AreAllAt (length rows) hands ring_locks book_lock → ArePiles rows old ring_locks book_lock
    → ArePiles (rows ++ rows_of hands) new ring_locks book_lock

-- their work, as it is now
abbrev pub works_of : {X : Type 0} → List (SeatedTold X) → List X
works_of {X} hands = map (λ (hand : SeatedTold X). hand.work) hands

-- each has a place at each of so many rings
abbrev pub HavePlaces : {X : Type 0} → ℕ → List (SeatedTold X) → Type 0
HavePlaces mounts [] = ⊤
HavePlaces mounts (hand ∷ hands) = (length hand.known.homes ≡ mounts) × HavePlaces mounts hands

-- what each has seen of the book are calls that fitted
abbrev pub AreLegal : {X : Type 0} → List (SeatedTold X) → Type 0
AreLegal [] = ⊤
AreLegal (hand ∷ hands) = IsLegal (fits hand.known.caps_are) hand.seen.book × AreLegal hands

-- no place of theirs was worn by more turns than these
abbrev pub AreBelow : {X : Type 0} → List ℕ → List (SeatedTold X) → Type 0
AreBelow worn [] = ⊤
AreBelow worn (hand ∷ hands) = AllLater hand.worn worn × AreBelow worn hands

-- A list took the work of these callers behind its own, in the room that it had.
pub record TookWork {X Y : Type 0} (told : Y → SeatedTold X) (hands : List Y)
    (old new : Vec X Global) : Type 0 where
  pub works : new.items ≡ old.items ++ works_of (map told hands)
  pub count : vec_len new ≡ vec_len old + length hands
  pub capacity : vec_capacity old ≤ vec_capacity new

-- The piles took a pass of each lock from each of these callers, in the room that they had.
pub record TookPasses {X Y : Type 0} (told : Y → SeatedTold X) (hands : List Y)
    (old new : PassPiles) : Type 0 where
  -- they are of as many mountpoints as before
  pub mounts : length new.rings.items ≡ length old.rings.items
  pub passes : length new.book.items ≡ length old.book.items + length hands
  pub space : (callers : ℕ) → HaveRoom (callers + length hands) old → HaveRoom callers new
  -- where no pass of the piles met its lock worn by more turns than these, no place of the callers
  -- was worn by more
  pub worn : (mounts : List ℕ) (book : ℕ) → AreWornWithin mounts book new
      → AreWornWithin mounts book old × AreBelow (mounts ++ book ∷ []) (map told hands)
