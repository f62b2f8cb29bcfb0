-- What the program ends with that fetches frames, and what the street tells of it.
use Rattle.std.specs.Prelude.{◌≡◌, ℕ, ◌<◌, ◌⊎◌, List, length, map, take, sum_by, Option}
use Rattle.cast_io.specs.Causes.{Rose}
use Rattle.cast_io.specs.Told.{StreetTold, Grew}
use Rattle.ntrip_fetch.specs.declared.left.FetchFault.TheVariants as faults
use Rattle.ntrip_fetch.specs.declared.left.Try.{Try}
use Rattle.ntrip_fetch.specs.declared.target.Target.{Target}
use Rattle.ntrip_fetch.specs.Tries.{HasStopped, HasTried, dial_of}

-- how many frames these tries wrote
abbrev pub frames_in : List Try → ℕ
frames_in tries = sum_by (λ tried. tried.frames) tries

-- what these tries come to: status 0 where all frames were written, and 9 where fewer were and
-- every target was tried
abbrev pub TriedEnd : ℕ → List Target → List Try → ℕ → Type 0
TriedEnd most targets tries status =
    ((status ≡ 0) × (frames_in tries ≡ most))
    ⊎ ((status ≡ 9) × (frames_in tries < most) × (length tries ≡ length targets))

-- the street was asked for one dial of each of the first so many targets, in order, and for nothing
-- else
abbrev pub AreDialled : ℕ → List Target → StreetTold → StreetTold → Type 0
AreDialled n targets before after = Grew before.asked after.asked (map dial_of (take n targets))

-- the targets were tried, each that was dialled once, and all that is written are the frames of
-- these tries
pub record HasFetched (most : ℕ) (targets : List Target) (before after : StreetTold)
    (old new : Option (List ℕ)) (status : ℕ) : Type 0 where
  pub tries : List Try
  pub tried : HasTried most targets before after old new tries
  pub dialled : AreDialled (length tries) targets before after
  pub ends : TriedEnd most targets tries status

-- the whole outcome, in which no byte but those of frames is written: the targets were tried; or a
-- write failed, with some first bytes written of the frames that came until then; or there was no
-- memory, with just these frames written
abbrev pub FetchingEnd : ℕ → List Target → StreetTold → StreetTold → Option (List ℕ)
    → Option (List ℕ) → ℕ → ℕ → ℕ → Type 0
FetchingEnd most targets before after old new first now status =
    HasFetched most targets before after old new status
    ⊎ (((status ≡ 5) × Rose first now × HasStopped most targets before after old new faults.Sink)
    ⊎ ((status ≡ 7) × HasStopped most targets before after old new faults.Memory))

-- so a fetch of so many frames from these targets ended, with this status
pub record HasFetching (most : ℕ) (targets : List Target) (before after : StreetTold)
    (old new : Option (List ℕ)) (first now status : ℕ) : Type 0 where
  pub dialled : (n : ℕ) × AreDialled n targets before after
  pub ends : FetchingEnd most targets before after old new first now status
