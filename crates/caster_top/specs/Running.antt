-- How a run of words ended: with an answer that was decided and then written, as a fetch, or as a
-- caster that kept serving.
use Rattle.std.specs.Prelude.{◌≡◌, ℕ, ◌⊎◌, List, Option}
use Rattle.cast_io.specs.Told.{StreetTold}
use Rattle.cast_io.specs.Yards.{YardTold}
use Rattle.ntrip_fetch.specs.declared.target.Target.{Target}
use Rattle.caster_top.specs.declared.answers.Answer.{Answer}
use Rattle.caster_top.specs.declared.command.CasterMode.{CasterMode}
use Rattle.caster_top.specs.Command.{AreCasting, AreFetch, AreKeep, CastNothing, FetchNothing, KeepNothing}
use Rattle.caster_top.specs.Told.{Files, Input}
use Rattle.caster_top.specs.Answers.{exit_of, IsAnswer, Writes}
use Rattle.caster_top.specs.Casting.{IsCastingAnswer}
use Rattle.caster_top.specs.Fetching.{HasFetching}
use Rattle.caster_top.specs.Keeping.{HasKeeping, Keeps}

-- the words ask for no fetch, and for no caster that keeps serving; the answer to them was written,
-- and the street was asked for nothing but a caster
pub record EndsByAnswer (words : List (List ℕ)) (input : Input) (files : Files)
    (of_input of_store : Type 0) (before after : StreetTold) (old new : Option (List ℕ))
    (first now status : ℕ) : Type 0 where
  pub answer : Answer
  pub no_fetch : FetchNothing words
  pub no_keep : KeepNothing words
  pub is : IsAnswer words input files of_input of_store answer
  pub written : Writes (exit_of answer) old new first now status
  pub casting : (task : CasterMode) (config addr : List ℕ) (limit : ℕ)
      → AreCasting task words config addr limit
      → IsCastingAnswer task files config addr limit before after of_store answer
  pub alone : CastNothing words → after ≡ before

-- the words ask for a fetch, and it was done
pub record EndsAsFetch (words : List (List ℕ)) (before after : StreetTold)
    (old new : Option (List ℕ)) (first now status : ℕ) : Type 0 where
  pub frames : ℕ
  pub targets : List Target
  pub are : AreFetch words frames targets
  pub fetching : HasFetching frames targets before after old new first now status

-- the words ask for a caster that keeps serving, and there was one, or no configuration for it;
-- what the street tells stayed as it was
pub record EndsAsKeep (kept : Keeps) (words : List (List ℕ)) (files : Files) (of_store : Type 0)
    (was is : YardTold) (before after : StreetTold) (old new : Option (List ℕ))
    (first now status : ℕ) : Type 0 where
  pub config : List ℕ
  pub addr : List ℕ
  pub quiet : ℕ
  pub are : AreKeep words config addr quiet
  pub keeping : HasKeeping kept files config addr quiet was is of_store old new first now status
  pub street : after ≡ before

-- the run of these words ended in one of these ways, with this status
pub record HasRun (kept : Keeps) (words : List (List ℕ)) (input : Input) (files : Files)
    (of_input of_store : Type 0) (was is : YardTold) (before after : StreetTold)
    (old new : Option (List ℕ)) (first now status : ℕ) : Type 0 where
  pub ends : EndsByAnswer words input files of_input of_store before after old new first now status
      ⊎ (EndsAsFetch words before after old new first now status
      ⊎ EndsAsKeep kept words files of_store was is before after old new first now status)
