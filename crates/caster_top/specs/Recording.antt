-- What a caster did that records a session over the links of one door, and what its street tells.
use Rattle.std.specs.Prelude.{◌≡◌, ℕ, ◌⊎◌, List, []}
use Rattle.cast_io.specs.declared.steps.Asked.TheVariants as asked
use Rattle.cast_io.specs.Doors.{IsNewDoor}
use Rattle.cast_io.specs.Streets.{HasAsked, HasShut}
use Rattle.cast_io.specs.Told.{LinkTold, DoorTold, StreetTold}
use Rattle.cast_config.specs.declared.config.Config.{Config}
use Rattle.session_script.specs.declared.Event.{Event}
use Rattle.session_model.specs.declared.report.Report.{Report}
use Rattle.caster_record.specs.Arriving.{HasTakenBack, HaveCome, HaveLeft}
use Rattle.caster_record.specs.Recorded.{IsRecorded}

-- the street was asked for one door at this address, which was new then, and took it back as it is
-- told last; it was asked for nothing else
pub record HasOpened (addr : List ℕ) (before after : StreetTold) (first last : DoorTold) : Type 0
  where
    pub mid : StreetTold
    pub asked : HasAsked (asked.Open addr 1) before mid
    pub fresh : IsNewDoor first
    pub shut : HasShut last mid after

-- A session of these events was recorded over the links that the door gave, none of whose accepts
-- failed; then these links came back to it, in order, as they were told.
pub record IsRecording (c : Config) (limit : ℕ) (first last : DoorTold) (events : List Event)
    : Type 0 where
  pub report : Report
  pub links : List LinkTold
  pub now : DoorTold
  pub recorded : IsRecorded c limit first now events report links
  pub calm : now.faults ≡ first.faults
  pub come : HaveCome first now [] links
  pub back : HasTakenBack links now last

-- so it was, over one door at this address
pub record HasRecorded (c : Config) (addr : List ℕ) (limit : ℕ) (before after : StreetTold)
    (events : List Event) : Type 0 where
  pub first : DoorTold
  pub last : DoorTold
  pub street : HasOpened addr before after first last
  pub session : IsRecording c limit first last events

-- the links that the door at this address had given came back to it, and it was shut
pub record HasStopped (addr : List ℕ) (before after : StreetTold) : Type 0 where
  pub first : DoorTold
  pub last : DoorTold
  pub street : HasOpened addr before after first last
  pub left : HaveLeft first last

-- so it was, or the street gave no door
abbrev pub HasNotRecorded : List ℕ → StreetTold → StreetTold → Type 0
HasNotRecorded addr before after =
    HasAsked (asked.Open addr 1) before after ⊎ HasStopped addr before after
