-- A keeper: a caller that serves the links of its gate until the gate is over, in one role, and
-- puts the lines of each.
use Rattle.std.specs.Prelude.{◌≡◌, ℕ, Bool, IsTrue, false, List, [], ◌∷◌, ◌++◌, fold, Option, None, Some}
use Rattle.cast_io.specs.declared.door.Arrived.TheVariants as arrived
use Rattle.cast_io.specs.Told.{LinkTold, DoorTold}
use Rattle.cast_io.specs.Doors.{HasHungUp}
use Rattle.caster_accounts.specs.declared.account.Sum.{Sum}
use Rattle.cast_config.specs.declared.config.Config.{Config}
use Rattle.session_model.specs.Run.{Histories}
use Rattle.caster_link.specs.declared.role.Role.{Role}
use Rattle.caster_link.specs.Wear.{Wear}
use Rattle.caster_places.specs.Leaves.{Leaves}
use Rattle.caster_serve.specs.Visits.{HasCome}
use Rattle.caster_serve.specs.Works.{tallied, receipts_of}
use Rattle.caster_keep.specs.declared.stop.Stop.{Stop}
use Rattle.caster_keep.specs.declared.stop.Stop.TheVariants as stops
use Rattle.caster_keep.specs.Links.{Kept, Follow, lines_from, records_of}

-- ---- at its gate

-- one turn at a gate: the gate as it was asked whether it is over, and behind its accept; the link
-- that it gave then, if it gave one, as it was kept; and the gate before the next turn
pub record Turn (G : Type 0) : Type 0 where
  pub asked : G
  pub opened : G
  pub kept : Option Kept
  pub left : G

abbrev pub kept_at : Option Kept → List Kept
kept_at None = []
kept_at (Some kept) = kept ∷ []

-- the links that were kept in these turns, in order
abbrev pub links_in : {G : Type 0} → List (Turn G) → List Kept
links_in [] = []
links_in (turn ∷ turns) = kept_at turn.kept ++ links_in turns

-- what a gate tells as a door, whether it is over, and how it names the peer of its last link
module _ {G : Type 0} (told : G → DoorTold) (over : G → Bool) (peer : G → List ℕ) where
  -- The accept gave a link: it was kept, its peer is the one that the gate told then, and it came
  -- back. Or nothing was there, and the gate rested.
  abbrev pub WasGiven : Option Kept → G → G → G → Type 0
  WasGiven None asked opened left =
      HasCome arrived.Idle (told asked) (told opened) × (told left ≡ told opened)
  WasGiven (Some kept) asked opened left = (link : LinkTold)
      × HasCome (arrived.Link link) (told asked) (told opened)
      × (kept.peer ≡ peer opened)
      × (kept.entry.link.given ≡ link.given)
      × HasHungUp kept.entry.link (told opened) (told left)

  -- the gate was asked whether it is over, and was not; then it was asked for a link
  pub record IsTurn (before : G) (turn : Turn G) : Type 0 where
    pub same : told turn.asked ≡ told before
    pub not_over : over turn.asked ≡ false
    pub given : WasGiven turn.kept turn.asked turn.opened turn.left

  -- these were all turns from here to there, one behind the other
  abbrev pub Went : List (Turn G) → G → G → Type 0
  Went [] before now = now ≡ before
  Went (turn ∷ turns) before now = IsTurn before turn × Went turns turn.left now

  -- it was asked whether it is over, and was; or it was not, and then it failed to give a link
  abbrev pub IsOver : G → G → Type 0
  IsOver at now = (told now ≡ told at) × IsTrue (over now)

  pub record HasFailed (at now : G) : Type 0 where
    pub asked : G
    pub same : told asked ≡ told at
    pub not_over : over asked ≡ false
    pub failed : HasCome arrived.Failed (told asked) (told now)

  -- why a keeper stopped: its gate was over, or failed
  abbrev pub IsWhy : Stop → G → G → Type 0
  IsWhy stops.Over at now = IsOver at now
  IsWhy stops.Failed at now = HasFailed at now

-- ---- all of it

-- The keeper of this number, which had served nothing, went from turn to turn at its gate and
-- stopped so. The links that the gate gave are these, in order, and each was kept: its connection
-- was served from the histories that the one before it left, and what it held before it was closed
-- is what it came to. The tally counts all their receipts, and the texts are all lines of all of
-- these links, in order.
pub record KeptOn {G : Type 0} (told : G → DoorTold) (over : G → Bool) (peer : G → List ℕ)
    (c : Config) (role : Role) (me : ℕ) (wear : Wear) (start now : Histories) (before after : G)
    (old new : Sum) (links : List Kept) (texts : List (List ℕ)) (stop : Stop) : Type 0 where
  pub turns : List (Turn G)
  pub at : G
  pub went : Went told over peer turns before at
  pub links_are : links_in turns ≡ links
  pub followed : Follow c role me wear links start now
  pub tally : new ≡ fold tallied old (receipts_of (records_of links))
  -- these are the sessions that it ended in the book
  pub leaves : Leaves me start.book now.book old new
  pub lines : texts ≡ lines_from c me role 1 links
  pub why : IsWhy told over peer stop at after
