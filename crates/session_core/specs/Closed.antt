-- What is told of a connection that is over, and what was called to close it.
use Rattle.std.specs.Prelude.{◌≡◌, ℕ, ◌≤◌, ◌⊎◌, Bool, true, false, IsTrue, List, [], reverse, Option, None, Some}
use Rattle.session_calls.specs.Steps.{Step}
use Rattle.session_calls.specs.Plans.{Plan, IsMade}
use Rattle.rover_session.specs.Made.{segments_after, sent_in, overrun_in}
use Rattle.cast_config.specs.declared.config.Config.{Config}
use Rattle.session_model.specs.declared.ending.Ending.{Ending}
use Rattle.session_model.specs.declared.ending.Last.{Last}
use Rattle.session_model.specs.declared.report.Receipt.{Receipt}
use Rattle.session_model.specs.Judged.{Judged}
use Rattle.session_model.specs.Owed.{Came, came_to, closing}
use Rattle.session_model.specs.Endings.{at_end, ended_last}
use Rattle.session_model.specs.Reports.{junk_of, is_entered}
use Rattle.session_model.specs.Run.{Histories}
use Rattle.session_model.specs.Called.{Called}
use Rattle.session_core.specs.Standing.{is_halted}

-- each turn that closes it was taken, or none was
abbrev pub IsSettled : (settled : Bool) → Plan → List Step → Type 0
IsSettled true plan steps = IsMade plan steps
IsSettled false plan steps = steps ≡ []

abbrev pub ending_by : Option Ending → Last → Came → Ending
ending_by None last came = ended_last last (at_end came)
ending_by (Some end) last came = end

-- the receipt of a connection with these steps, whose judgment is this
pub record IsReceipt (ended : Option Ending) (j : Judged) (steps : List Step) (last : Last)
    (receipt : Receipt) : Type 0 where
  pub ending : receipt.ending ≡ ending_by ended last (came_to j steps)
  pub segments : receipt.segments ≡ reverse (segments_after [] steps)
  pub sent : receipt.sent ≡ sent_in (segments_after [] steps)
  pub overrun : receipt.overrun ≡ overrun_in (segments_after [] steps)
  pub junk : IsTrue (is_halted ended) ⊎ (receipt.junk ≡ junk_of (came_to j steps))
  pub at_most : receipt.junk ≤ junk_of (came_to j steps)
  pub entered : receipt.entered ≡ is_entered (came_to j steps)

-- of a connection with this judgment and these steps so far
pub record IsClosed (c : Config) (alone : Bool) (old now : Histories) (me : ℕ)
    (ended : Option Ending) (j : Judged) (steps : List Step) (last : Last) (receipt : Receipt)
    : Type 0 where
  pub more : List Step
  pub called : Called c alone old now me more
  pub settled : IsSettled receipt.settled (closing j steps) more
  pub receipt_is : IsReceipt ended j steps last receipt
