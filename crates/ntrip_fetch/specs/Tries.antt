-- How targets are tried one after the other.
use Rattle.std.specs.Prelude.{◌≡◌, ◌≢◌, ◌<◌, ◌≤◌, ◌-◌, ℕ, List, [], ◌∷◌, ◌++◌, map, Option, None, Some, IsTrue}
use Rattle.std.specs.List.{concat, flat_map}
use Rattle.std.specs.Str.{is_utf8}
use Rattle.std.specs.Io.KnownBytes.{Appends}
use Rattle.cast_io.specs.declared.steps.Asked.{Asked}
use Rattle.cast_io.specs.declared.steps.Asked.TheVariants as asked
use Rattle.cast_io.specs.Causes.{Rose}
use Rattle.cast_io.specs.Pieces.{AppendsPrefix}
use Rattle.cast_io.specs.Told.{LinkTold, StreetTold, Grew}
use Rattle.cast_io.specs.Links.{IsNewLink}
use Rattle.ntrip_fetch.specs.declared.target.Target.{Target}
use Rattle.ntrip_fetch.specs.declared.left.FetchFault.{FetchFault}
use Rattle.ntrip_fetch.specs.declared.left.FetchFault.TheVariants as faults
use Rattle.ntrip_fetch.specs.declared.left.Left.TheVariants.{Enough, Dial, LinkFault}
use Rattle.ntrip_fetch.specs.declared.left.Try.{Try}
use Rattle.ntrip_fetch.specs.Request.{IsSpoken}
use Rattle.ntrip_fetch.specs.Fetched.{Fetched, BrokenOff}

-- ---- one try

-- the protocol is one of NTRIP's, and the address is text
abbrev pub CanBeTried : Target → Type 0
CanBeTried target = IsSpoken target × IsTrue (is_utf8 target.address)

-- what the street is asked for a target
abbrev pub dial_of : Target → Asked
dial_of target = asked.Dial target.address

-- a try, the frames that it wrote, and the link as it came back, where one was dialled
pub record Run : Type 0 where
  pub tried : Try
  pub frames : List (List ℕ)
  pub link : Option LinkTold

-- the link as a list
abbrev pub links_of : Option LinkTold → List LinkTold
links_of None = []
links_of (Some link) = link ∷ []

-- how a try went: its link, new as it was dialled, was fetched from; without a link the dial failed
abbrev pub Went : Target → ℕ → StreetTold → StreetTold → Option LinkTold → List (List ℕ) → Try
    → Type 0
Went target most old new None frames tried =
    (tried ≡ record { frames = 0; left = Dial }) × (frames ≡ []) × Rose old.faults new.faults
Went target most old new (Some link) frames tried =
    (first : LinkTold) × IsNewLink first × Fetched target most first link frames tried
    × (tried.left ≡ LinkFault → (0 < link.faults) × Rose old.link_faults new.link_faults)

-- what a street tells after one target was dialled, once, and the link came back, if there was one
pub record HasDialled (target : Target) (old new : StreetTold) (link : Option LinkTold)
    : Type 0 where
  pub asked : Grew old.asked new.asked (dial_of target ∷ [])
  pub links : Grew old.links new.links (links_of link)
  pub doors : new.doors ≡ old.doors
  pub faults : old.faults ≤ new.faults
  pub link_faults : old.link_faults ≤ new.link_faults

-- one target was tried
pub record IsRun (target : Target) (most : ℕ) (old new : StreetTold) (run : Run) : Type 0 where
  pub street : HasDialled target old new run.link
  pub went : Went target most old new run.link run.frames run.tried

-- ---- all tries

-- The targets were tried in order, each once, with so many frames wanted, until these were
-- written or all were tried.
pub data AreRuns : ℕ → List Target → StreetTold → StreetTold → List Run → Type 0 where
  none_left : (most : ℕ) (told : StreetTold) → AreRuns most [] told told []
  enough : (most : ℕ) (target : Target) (later : List Target) (old new : StreetTold) (run : Run)
      → IsRun target most old new run → run.tried.left ≡ Enough
      → AreRuns most (target ∷ later) old new (run ∷ [])
  another : (most : ℕ) (target : Target) (later : List Target) (old mid new : StreetTold)
      (run : Run) (runs : List Run) → IsRun target most old mid run → run.tried.left ≢ Enough
      → AreRuns (most - run.tried.frames) later mid new runs
      → AreRuns most (target ∷ later) old new (run ∷ runs)

-- the tries of these runs
abbrev pub tries_of : List Run → List Try
tries_of runs = map (λ run. run.tried) runs

-- all frames that these runs wrote
abbrev pub frames_of_all : List Run → List (List ℕ)
frames_of_all runs = flat_map (λ run. run.frames) runs

-- the tries, and all that they wrote
pub record HasTried (most : ℕ) (targets : List Target) (old new : StreetTold)
    (start now : Option (List ℕ)) (tries : List Try) : Type 0 where
  pub runs : List Run
  pub are : AreRuns most targets old new runs
  pub tries_are : tries ≡ tries_of runs
  pub wrote : Appends start now (concat (frames_of_all runs))

-- ---- a fault

-- The last target was dialled, and there this fault came. For want of memory nothing was asked of
-- its link, if there was one, and no frame written; where the sink failed, these were to be
-- written.
abbrev pub Broke : Target → ℕ → Option LinkTold → List (List ℕ) → FetchFault → Type 0
Broke target most None frames faults.Sink = ⊥
Broke target most None frames faults.Memory = frames ≡ []
Broke target most (Some link) frames faults.Sink =
    (first : LinkTold) × IsNewLink first × BrokenOff target most first link frames
Broke target most (Some link) frames faults.Memory = IsNewLink link × (frames ≡ [])

-- Some targets were tried before the one where this fault came; all these frames were to be written
-- until then. Want of memory may also come before any was dialled.
pub data Stopped : ℕ → List Target → StreetTold → StreetTold → List (List ℕ) → FetchFault → Type 0
  where
    at_first : (most : ℕ) (targets : List Target) (told : StreetTold)
        → Stopped most targets told told [] faults.Memory
    here : (most : ℕ) (target : Target) (later : List Target) (old new : StreetTold)
        (link : Option LinkTold) (frames : List (List ℕ)) (fault : FetchFault)
        → HasDialled target old new link → Broke target most link frames fault
        → Stopped most (target ∷ later) old new frames fault
    behind : (most : ℕ) (target : Target) (later : List Target) (old mid new : StreetTold)
        (run : Run) (frames : List (List ℕ)) (fault : FetchFault)
        → IsRun target most old mid run → run.tried.left ≢ Enough
        → Stopped (most - run.tried.frames) later mid new frames fault
        → Stopped most (target ∷ later) old new (run.frames ++ frames) fault

-- so much was written of the frames that were to be: all of them, or where the sink failed some
-- first bytes
abbrev pub IsWrittenBy : Option (List ℕ) → Option (List ℕ) → List (List ℕ) → FetchFault → Type 0
IsWrittenBy start now frames faults.Sink = AppendsPrefix start now (concat frames)
IsWrittenBy start now frames faults.Memory = Appends start now (concat frames)

-- what was done by the time of the fault
pub record HasStopped (most : ℕ) (targets : List Target) (old new : StreetTold)
    (start now : Option (List ℕ)) (fault : FetchFault) : Type 0 where
  pub frames : List (List ℕ)
  pub stopped : Stopped most targets old new frames fault
  pub wrote : IsWrittenBy start now frames fault

-- ---- one target

-- it was tried, and these frames were written
abbrev pub RunEnded : Target → ℕ → StreetTold → StreetTold → Option (List ℕ) → Option (List ℕ)
    → Try → Type 0
RunEnded target most old new start now tried =
    (frames : List (List ℕ)) × (link : Option LinkTold)
    × IsRun target most old new (record { tried = tried; frames = frames; link = link })
    × Appends start now (concat frames)

-- a fault came there
abbrev pub RunStopped : Target → ℕ → StreetTold → StreetTold → Option (List ℕ) → Option (List ℕ)
    → FetchFault → Type 0
RunStopped target most old new start now fault =
    (frames : List (List ℕ)) × (link : Option LinkTold)
    × HasDialled target old new link × Broke target most link frames fault
    × IsWrittenBy start now frames fault
