-- How a connection begins: with its first calls, its reply and the session that it leaves.
use Rattle.std.specs.Prelude.{◌≡◌, ℕ, ◌⊎◌, ⊤, Bool, List, [], ◌++◌, reverse, Option, None, Some}
use Rattle.session_calls.specs.Steps.{Step}
use Rattle.rover_session.specs.Made.{segments_after, owed_among}
use Rattle.rover_session.specs.Body.{body_of}
use Rattle.cast_config.specs.declared.config.Config.{Config}
use Rattle.session_model.specs.declared.ending.Ending.{Ending}
use Rattle.session_model.specs.declared.ending.Ending.TheVariants.{Memory}
use Rattle.session_core.specs.declared.session_stage.SessionStage.{SessionStage}
use Rattle.session_core.specs.declared.session_stage.SessionStage.TheVariants.{Over, Rover}
use Rattle.session_model.specs.Judged.{Opening, Judged}
use Rattle.session_model.specs.Owed.{came_to, plan_of}
use Rattle.session_model.specs.Endings.{ended_by}
use Rattle.session_model.specs.Replies.{reply_of, version_of, kept_frames}
use Rattle.session_model.specs.Run.{Histories}
use Rattle.session_model.specs.Called.{Called}
use Rattle.session_core.specs.Beginnings.{ended_joining}
use Rattle.session_core.specs.Standing.{is_halted, is_halted_uncalled, IsMadeBy, IsSentBy, EndsAs, IsAtStage, EndsAt}

-- what is sent of a connection that is so judged, behind its opening
abbrev pub due_by : Config → Histories → Judged → List Step → List ℕ
due_by c histories j steps =
    reply_of c (came_to j steps)
    ++ body_of (version_of (came_to j steps))
    (kept_frames c histories.rings (reverse (segments_after [] steps)))

-- a connection that was just begun goes on, unless nothing is left to be closed, or it is a rover
-- that was halted as it joined
abbrev pub StartsAs : SessionStage → Option Ending → Type 0
StartsAs Over ended = ⊤
StartsAs (Rover account session) ended = ended ≡ ended_joining session.halt
StartsAs _ ended = ended ≡ None

-- A connection that is so judged was begun: it made what it owes and was sent its reply.
pub record Begins (c : Config) (alone : Bool) (old now : Histories) (me : ℕ) (j : Judged)
    (stage : SessionStage) (ended : Option Ending) (before after : List ℕ) : Type 0 where
  pub more : List Step
  pub added : List ℕ
  pub out : after ≡ before ++ added
  pub called : Called c alone old now me more
  pub no_read : owed_among more ≡ more
  pub owes : IsMadeBy (is_halted ended) (plan_of c j) (owed_among more)
  pub ends : EndsAs ended (ended_by (came_to j more))
  pub stage_is : (opening : Opening) (text : List ℕ)
      → IsAtStage c me now opening j text more stage
  pub halts : EndsAt stage ended
  pub starts : StartsAs stage ended
  pub sent_is : IsSentBy (is_halted_uncalled ended more) added (due_by c now j more)

-- memory was lacking before anything was called or appended
pub record IsLostAt (old now : Histories) (stage : SessionStage) (ended : Option Ending)
    (before after : List ℕ) : Type 0 where
  pub uncalled : now ≡ old
  pub unsent : after ≡ before
  pub stage_is : stage ≡ Over
  pub ended_is : ended ≡ Some Memory

abbrev pub BeginsFor : Config → (alone : Bool) → Histories → Histories → ℕ → Judged → SessionStage
    → Option Ending → List ℕ → List ℕ → Type 0
BeginsFor c alone old now me j stage ended before after =
    Begins c alone old now me j stage ended before after
    ⊎ IsLostAt old now stage ended before after
