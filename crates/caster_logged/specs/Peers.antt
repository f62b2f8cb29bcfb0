-- A session that was recorded over the links of one door, by the log of that door.
use Rattle.std.specs.Prelude.{◌≡◌, ℕ, ◌+◌, ◌≤◌, false, IsTrue, ⊤, List, [], ◌∷◌, ◌++◌, length}
use Rattle.std.specs.List.{list_any}
use Rattle.cast_io.specs.declared.steps.Asked.TheVariants as asked
use Rattle.cast_io.specs.Links.{bytes_in, is_failure}
use Rattle.cast_io.specs.Logged.{LinkLog, DoorLog, StreetLog}
use Rattle.cast_config.specs.declared.config.Config.{Config}
use Rattle.session_script.specs.declared.Event.{Event}
use Rattle.session_script.specs.Script.{IsSession}
use Rattle.session_script.specs.Writing.{script_text}
use Rattle.session_model.specs.declared.report.Report.{Report}
use Rattle.session_model.specs.Reports.{IsReport}
use Rattle.caster_replay.specs.Sends.{told_sent}
use Rattle.run_promise.specs.Promised.{IsPromised}
use Rattle.caster_record.specs.Moves.{Move, brought_in, has_torn, taken_in}
use Rattle.caster_record.specs.Recorded.{IsAtEnd}
use Rattle.caster_record.specs.Recording.{kind_of}
use Rattle.caster_record.specs.Rounds.{AreRounds, moves_of}

-- The link of this number took what the moves say, and what the events bring in on its connection
-- is what its reads gave. Its writes took exactly what its connection is sent, or where one failed
-- the first of that. A call of it failed only where its count rose.
pub record IsPeer (k : ℕ) (moves : List Move) (script : List Event) (sent : List ℕ)
    (link : LinkLog) : Type 0 where
  pub taken : link.taken ≡ taken_in k moves
  pub brought : brought_in k script ≡ bytes_in link.taken
  pub rest : List ℕ
  pub bytes : sent ≡ link.bytes ++ rest
  pub whole : has_torn k moves ≡ false → rest ≡ []
  pub faults : IsTrue (list_any is_failure link.taken) → 1 ≤ link.faults

-- these are the links of the numbers from this one on, in order
abbrev pub ArePeers : ℕ → List Move → List Event → (ℕ → List ℕ) → List LinkLog → Type 0
ArePeers k moves script sent [] = ⊤
ArePeers k moves script sent (link ∷ more) =
    IsPeer k moves script (sent k) link × ArePeers (k + 1) moves script sent more

-- The street was asked for one door at this address, which came back to it with the links that it
-- gave. The events are a session, made in rounds over these links, to the recording's end; they are
-- read back from its script. The report of their replay keeps the promise of recorded sessions, and
-- each link gave and took what that report and the events say.
pub record HasRecordedAll (c : Config) (addr : List ℕ) (limit : ℕ) (old new : StreetLog)
    (script : List Event) : Type 0 where
  pub door : DoorLog
  pub asked : new.asked ≡ old.asked ++ asked.Open addr 1 ∷ []
  pub doors : new.doors ≡ old.doors ++ door ∷ []
  pub links : new.links ≡ old.links
  pub session : IsSession (kind_of c) script
  pub bound : length (script_text script) ≤ 8388608
  pub report : Report
  pub is_report : IsReport c script report
  pub promised : IsPromised c script report
  pub rounds : List (List Move)
  pub are : AreRounds c limit rounds [] 0 [] (length door.back) script
  pub peers : ArePeers 1 (moves_of rounds) script (λ n. told_sent n report.connections) door.back
  pub ended : IsAtEnd c limit script (length door.back)
