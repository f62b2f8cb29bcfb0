-- What stands while a session is recorded.
use Rattle.std.specs.Prelude.{◌≡◌, ℕ, ◌+◌, ◌<◌, ◌≤◌, Bool, true, false, List, [], ◌++◌, length, map, get_or}
use Rattle.cast_io.specs.Told.{LinkTold, DoorTold, StillTold}
use Rattle.session_script.specs.declared.Event.{Event}
use Rattle.session_script.specs.Numbers.{no_numbers, is_among}
use Rattle.cast_config.specs.declared.config.Config.{Config}
use Rattle.caster_replay.specs.Going.{numbers_from}
use Rattle.caster_replay.specs.Kept.{sent_by_run}
use Rattle.caster_record.specs.declared.recorder.Recorder.{Recorder}
use Rattle.caster_record.specs.Moves.{Move, AskAll, MakeAll, taken_in, has_torn}
use Rattle.caster_record.specs.Peers.{ArePeers}
use Rattle.caster_record.specs.Recording.{Records, events_in}
use Rattle.caster_record.specs.Rounds.{AreRounds, IsRound, moves_of}

-- so many numbers, and none is above
pub record AreUpTo (count : ℕ) (numbers : List ℕ) : Type 0 where
  pub size : length numbers ≡ count
  pub least : (n : ℕ) → count < n → is_among n numbers ≡ false

-- The recorder and the links of its connections stand for these moves: the events are those of the
-- moves, each link tells what the moves say, and the links of which a write was torn are marked.
-- The numbers above those of the links are free.
pub record Keeps {L : Type 0} (told : L → LinkTold) (c : Config) (recorder : Recorder)
    (links : List L) (torn : List Bool) (moves : List Move) : Type 0 where
  pub records : Records c recorder
  pub made : MakeAll c moves [] (events_in recorder)
  pub peers : ArePeers 1 moves (sent_by_run recorder.run) (map told links)
  pub size : length torn ≡ length links
  pub few : length links ≤ 256
  pub marks : (at : ℕ) → at < length links → get_or torn at true ≡ has_torn (1 + at) moves
  pub unread : (n : ℕ) → length links < n → taken_in n moves ≡ []
  pub unsent : (n : ℕ) → length links < n → sent_by_run recorder.run n ≡ []
  pub opened : AreUpTo (length links) (numbers_from no_numbers (events_in recorder)).opened
  pub bound : recorder.tape.size ≤ 8378380

-- So it is between rounds. Where the door told its arrivals to come before them all, and tells
-- those now, the rounds took one for each time that they asked it; and it had no fault.
pub record RestsAfter {L : Type 0} (told : L → LinkTold) (c : Config) (limit : ℕ)
    (before now : DoorTold) (recorder : Recorder) (links : List L) (torn : List Bool)
    : Type 0 where
  pub rounds : List (List Move)
  pub are : AreRounds c limit rounds [] 0 [] (length links) (events_in recorder)
  pub asked : StillTold (AskAll (moves_of rounds)) before.left now.left
  pub calm : now.faults ≡ before.faults
  pub keeps : Keeps told c recorder links torn (moves_of rounds)

-- The same holds within a round, once each link up to number n had its place in it.
pub record IsWithin {L : Type 0} (told : L → LinkTold) (c : Config) (limit n : ℕ)
    (before now : DoorTold) (recorder : Recorder) (links : List L) (torn : List Bool)
    : Type 0 where
  pub rounds : List (List Move)
  pub few : ℕ
  pub first : List Event
  pub are : AreRounds c limit rounds [] 0 [] few first
  pub round : List Move
  pub is : IsRound c limit (moves_of rounds) few n round first (events_in recorder) (length links)
  pub asked : StillTold (AskAll (moves_of rounds ++ round)) before.left now.left
  pub calm : now.faults ≡ before.faults
  pub keeps : Keeps told c recorder links torn (moves_of rounds ++ round)
