-- What one step of a connection that goes on comes to.
use Rattle.std.specs.Prelude.{◌≡◌, ◌≢◌, ℕ, Bool, false, List, [], ◌∷◌, ◌++◌}
use Rattle.cast_io.specs.declared.steps.Step.{Step}
use Rattle.cast_io.specs.Told.{LinkTold}
use Rattle.cast_config.specs.declared.config.Config.{Config}
use Rattle.caster_replay.specs.Kept.{sent_by_run}
use Rattle.caster_record.specs.declared.recorder.Recorder.{Recorder}
use Rattle.caster_record.specs.Moves.{Move, served, Served, has_torn, is_torn}
use Rattle.caster_record.specs.Peers.{IsPeer}
use Rattle.caster_record.specs.Recording.{events_in}

-- The link of this number was served: its connection heard an answer of it; where the link told
-- what the moves so far say, and no write of it was torn, it tells what they and this move say; and
-- nobody else was sent more.
pub record IsServed (c : Config) (k : ℕ) (before now : LinkTold) (old new : Recorder) (torn : Bool)
    : Type 0 where
  pub answer : Step
  pub calm : is_torn answer ≡ false
  pub is_served : Served c k answer torn (events_in old) (events_in new)
  pub peer : (moves : List Move) → IsPeer k moves (sent_by_run old.run k) before
      → has_torn k moves ≡ false
      → IsPeer k (moves ++ served k answer torn ∷ []) (sent_by_run new.run k) now
  pub given : now.given ≡ before.given
  pub others : (n : ℕ) → n ≢ k → sent_by_run new.run n ≡ sent_by_run old.run n
