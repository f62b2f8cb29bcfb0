-- What contracts see of the desks of a run: one at the ring of each mountpoint, and one at the
-- book of accounts.
use Rattle.std.specs.Prelude.{◌≡◌, ℕ, List, map}
use base.Stored.{Gv}
use Rattle.mount_ring.specs.declared.shape.RingShape.{RingShape}
use Rattle.cast_config.specs.declared.config.Config.{Config}
use Rattle.session_core.specs.Places.{AtRing}
use Rattle.session_model.specs.declared.report.MountTotal.{MountTotal}
use Rattle.session_model.specs.Reports.{mount_total}
use Rattle.session_model.specs.Run.{Histories, nothing_called}
use Rattle.session_model.specs.Setting.{shapes, caps}

-- what no call changes of the rings and of the book, and all calls so far
pub record DesksValue : Type 0 where
  pub rings : List RingShape
  pub book : List ℕ
  -- which object each place at a ring is at
  pub homes : List Gv
  pub seen : Histories

-- they are the places of a caster with this configuration
pub record ArePlaces (c : Config) (desks : DesksValue) : Type 0 where
  pub rings : desks.rings ≡ shapes c
  pub book : desks.book ≡ caps c

-- no call changed what they are
pub record SamePlaces (old now : DesksValue) : Type 0 where
  pub rings : now.rings ≡ old.rings
  pub book : now.book ≡ old.book
  pub homes : now.homes ≡ old.homes

-- these are the places at the rings, in the order of their mountpoints
pub record AreRings {P : Type 0} (ring : AtRing P) (desks : DesksValue) (places : List P)
    : Type 0 where
  pub shapes_are : map ring.shape places ≡ desks.rings
  pub homes_are : map ring.home places ≡ desks.homes
  pub seen_are : map ring.seen places ≡ desks.seen.rings

-- these are places at new rings of the mountpoints of this configuration
pub record AreNew {P : Type 0} (ring : AtRing P) (c : Config) (places : List P) : Type 0 where
  pub shapes_are : map ring.shape places ≡ shapes c
  pub uncalled : map ring.seen places ≡ (nothing_called c).rings

-- what the mountpoints of these places came to
abbrev pub mount_totals : {P : Type 0} → AtRing P → List P → List MountTotal
mount_totals ring places = map mount_total (map ring.seen places)

-- nothing but the places at the rings changed
pub record SameBook (old now : DesksValue) : Type 0 where
  pub book : now.book ≡ old.book
  pub seen : now.seen.book ≡ old.seen.book
