-- A recorded run of the first events of a script: whatever events follow, what is kept of its
-- connections is what the run with the headings of them all has of them.
use Rattle.std.specs.Prelude.{◌≡◌, ℕ, ◌<◌, ◌==◌, Bool, true, false, if◌then◌else◌, List, [], ◌∷◌, ◌++◌, None, Some, is_none}
use Rattle.std.specs.List.{All}
use Rattle.session_script.specs.declared.Event.{Event}
use Rattle.session_script.specs.declared.Event.TheVariants as events
use Rattle.cast_config.specs.declared.config.Config.{Config}
use Rattle.session_model.specs.Headings.{Heading}
use Rattle.session_model.specs.Endings.{goes_on}
use Rattle.session_model.specs.Reports.{IsHeadingOf, AreHeadings, opened_as, bytes_to}
use Rattle.session_model.specs.Run.{Histories, Connected, World, judged_of, is_opened, after_events}
use Rattle.caster_replay.specs.Lives.{Live, IsLive}

-- ---- what the events say of a connection

-- whether the connection of this number is closed by these events
abbrev pub is_cut : ℕ → List Event → Bool
is_cut n [] = false
is_cut n (events.Open k ∷ later) = is_cut n later
is_cut n (events.Source k mount ∷ later) = is_cut n later
is_cut n (events.Rover k mount ∷ later) = is_cut n later
is_cut n (events.Relay k relay ∷ later) = is_cut n later
is_cut n (events.In k bytes ∷ later) = is_cut n later
is_cut n (events.Turn k budget ∷ later) = is_cut n later
is_cut n (events.Break k ∷ later) = if k == n then true else is_cut n later
is_cut n (events.End k ∷ later) = if k == n then true else is_cut n later

-- what these events say of a connection of their run: it opened so, and its text is all its bytes
-- while it goes on
pub record IsKnown (c : Config) (headings : ℕ → Heading) (list : List Event) (d : Connected)
    : Type 0 where
  pub opened : opened_as d.number list ≡ Some d.opening
  -- the bytes that came when it was over
  pub rest : List ℕ
  pub begins : bytes_to d.number list ≡ d.text ++ rest
  pub going : goes_on (judged_of c (headings d.number) d) d.steps d.closed ≡ true
      → (rest ≡ []) × (is_cut d.number list ≡ false)
  pub closed : is_none d.closed ≡ false → is_cut d.number list ≡ true

-- every connection is known, and every number that opened is a connection's
pub record AreKnown (c : Config) (headings : ℕ → Heading) (list : List Event) (w : World)
    : Type 0 where
  pub each : All (IsKnown c headings list) w.connections
  pub none : (n : ℕ) → is_opened n w.connections ≡ false → opened_as n list ≡ None

-- there are headings of these events
abbrev pub HasHeadings : List Event → Type 0
HasHeadings script =
    (n : ℕ) → (heading : Heading)
    × IsHeadingOf (opened_as n script) (bytes_to n script) heading

-- ---- the connections and what is kept of them

-- each of these has a greater number
abbrev pub AreAbove : ℕ → List Connected → Type 0
AreAbove number [] = Unit {0}
AreAbove number (d ∷ ds) = (number < d.number) × AreAbove number ds

-- the connections stand in increasing order of number
abbrev pub IsIncreasing : List Connected → Type 0
IsIncreasing [] = Unit {0}
IsIncreasing (d ∷ ds) = AreAbove d.number ds × IsIncreasing ds

-- each of the connections with what is kept of it
abbrev pub Pairs : {L : Type 0} → (Connected → L → Type 0) → List Connected → List L → Type 0
Pairs R [] [] = Unit {0}
Pairs R [] (kept ∷ more) = ⊥
Pairs R (d ∷ ds) [] = ⊥
Pairs R (d ∷ ds) (kept ∷ more) = R d kept × Pairs R ds more

-- the histories are those of the run, and of each of its connections this is kept
pub record LivesStandAt (c : Config) (headings : ℕ → Heading) (w : World) (lives : List Live)
    (now : Histories) : Type 0 where
  pub histories : w.histories ≡ now
  pub order : IsIncreasing w.connections
  pub each : Pairs (IsLive c headings now) w.connections lives

-- ---- the run so far

pub record Runs (c : Config) (script : List Event) (lives : List Live) (now : Histories)
    : Type 0 where
  pub known : (headings : ℕ → Heading) → AreKnown c headings script (after_events c headings script)
  pub has : HasHeadings script
  pub stands : (more : List Event) (headings : ℕ → Heading) → AreHeadings (script ++ more) headings
      → LivesStandAt c headings (after_events c headings script) lives now
