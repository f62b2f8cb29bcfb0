-- The law speaks of a caster that kept serving until it ended.
use Rattle.std.proofs.Common.{ℕ, Bool, List, Option, Result, Ok, Err}
use Rattle.std.specs.Prelude.{IfOk}
use Rattle.cast_io.specs.declared.yard_asked.YardAsked.{YardAsked}
use Rattle.cast_io.specs.Told.{DoorTold}
use Rattle.cast_io.specs.Yards.{YardTold}
use Rattle.cast_console.specs.Consoles.{ConsoleTold}
use Rattle.cast_config.specs.declared.config.Config.{Config}
use Rattle.caster_keep.specs.declared.whole.Outcome.{Outcome}
use Rattle.caster_keep.specs.declared.whole.KeepFault.{KeepFault}
use Rattle.caster_keep.specs.Gates.{made_of}
use Rattle.caster_keep.specs.Keeping.{HasEnded, HasKept}
use Rattle.keep_promise.specs.Keepers.{IsPromised}
use Rattle.caster_keep_tests.proofs.promised.promised_keep.Goals as goal

module _ {G O : Type 0} (told : G → DoorTold) (over : G → Bool) (peer : G → List ℕ) (origin : G → YardAsked)
    (taken : O → Option (List ℕ)) (faults_of : O → ℕ) (back_before back_now : List ConsoleTold) (c : Config)
    (addr : List ℕ) (quiet : ℕ) (old new : YardTold) where
  -- it ended so, and is promised
  abbrev IsKeptSo : Outcome → Type 0
  IsKeptSo outcome =
      (ended : HasEnded told over peer origin taken faults_of back_before back_now c (made_of c addr quiet) old new outcome)
      × IsPromised told over peer origin taken faults_of back_before back_now c (made_of c addr quiet) old new outcome ended

  -- what holds of each caster that ended, said of an answer
  of_answer : (result : Result Outcome KeepFault)
      → ((outcome : Outcome)
      (ended : HasEnded told over peer origin taken faults_of back_before back_now c (made_of c addr quiet) old new outcome)
      → IsPromised told over peer origin taken faults_of back_before back_now c (made_of c addr quiet) old new outcome ended)
      → HasKept told over peer origin taken faults_of back_before back_now c addr quiet old new result
      → IfOk result IsKeptSo
  of_answer (Ok outcome) law has = (has.answered.ended, law outcome has.answered.ended)
  of_answer (Err fault) law has = tt

pub returns : goal.returns
returns g c =
    of_answer g.Y.Gate.Door.told g.Y.Gate.Gate.over g.Y.Gate.Gate.peer g.Y.Gate.Gate.origin g.Y.Notes.Sink.taken
    g.Y.Notes.Sink.faults _ _ c.args.config.now c.args.addr.now c.args.quiet _ _ c.keep.result
    (λ outcome ended. c.keepers_are_promised.ensures _ _ _ _ _ _ outcome ended) c.keep.ensures.kept
