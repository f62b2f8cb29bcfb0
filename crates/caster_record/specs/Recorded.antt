-- What a recorded session is.
use Rattle.std.specs.Prelude.{◌≡◌, ℕ, ◌<◌, ◌≤◌, ◌⊎◌, false, List, [], length, Ok}
use Rattle.cast_io.specs.Told.{LinkTold, DoorTold, StillTold}
use Rattle.session_script.specs.declared.Event.{Event}
use Rattle.session_script.specs.Script.{IsSession, script_of}
use Rattle.session_script.specs.Writing.{lines_text, script_text}
use Rattle.cast_config.specs.declared.config.Config.{Config}
use Rattle.session_model.specs.Reports.{IsReport}
use Rattle.session_model.specs.declared.report.Report.{Report}
use Rattle.caster_replay.specs.Going.{GoesOn}
use Rattle.caster_replay.specs.Sends.{told_sent}
use Rattle.caster_record.specs.Moves.{Move, AskAll, taken_in, brought_in}
use Rattle.cast_io.specs.Links.{bytes_in}
use Rattle.caster_record.specs.Peers.{ArePeers}
use Rattle.caster_record.specs.Recording.{kind_of}
use Rattle.caster_record.specs.Rounds.{AreRounds, moves_of}

-- The recording is at its end: so many links came as may and no connection goes on, or the lines of
-- the events have more than 8,370,000 bytes.
abbrev pub IsAtEnd : Config → ℕ → List Event → ℕ → Type 0
IsAtEnd c limit script count =
    ((count ≡ limit) × ((k : ℕ) → 1 ≤ k → k ≤ count → GoesOn c script k false))
    ⊎ (8370000 < length (lines_text script))

-- The events are a session, whose script reads as them, and the report is that of their replay.
-- They are those of rounds, in which each link was served in its place, and each link, by what it
-- tells, took what these rounds and the report say. What the events bring in on a connection is
-- what the reads of its link gave. Where the door tells its arrivals to come, they are those that
-- it told before without those that these rounds took, each time that they asked it. The recording
-- came to its end, and the script has at most 8 MiB.
pub record IsRecorded (c : Config) (limit : ℕ) (before now : DoorTold) (script : List Event)
    (report : Report) (links : List LinkTold) : Type 0 where
  pub session : IsSession (kind_of c) script
  pub bound : length (script_text script) ≤ 8388608
  pub reads : script_of (kind_of c) (script_text script) ≡ Ok script
  pub is_report : IsReport c script report
  pub rounds : List (List Move)
  pub are : AreRounds c limit rounds [] 0 [] (length links) script
  pub asked : StillTold (AskAll (moves_of rounds)) before.left now.left
  pub peers : ArePeers 1 (moves_of rounds) (λ n. told_sent n report.connections) links
  pub brought : (k : ℕ) → brought_in k script ≡ bytes_in (taken_in k (moves_of rounds))
  pub ended : IsAtEnd c limit script (length links)
