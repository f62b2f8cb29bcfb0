-- What a rover is to call, as far as its reports say: a rover that is not near joins its one base.
-- A near one asks for each report which of its bases are held, chooses among these, and joins
-- where the choice changed. For each turn it reads on from where its last segment stands.
use Rattle.std.specs.Prelude.{ℕ, ◌==◌, Bool, true, false, if◌then◌else◌, List, [], ◌∷◌, ◌++◌, Option, None, Some, option_to_list}
use Rattle.gga_read.specs.declared.Position.{Position}
use Rattle.gga_read.specs.Report.{reports}
use Rattle.base_select.specs.declared.Base.{Base}
use Rattle.base_select.specs.Choice.{choice_of}
use Rattle.mount_ring.specs.declared.call.RingCall.TheVariants.{Join, Look, Read}
use Rattle.mount_ring.specs.declared.call.RingAnswer.{RingAnswer}
use Rattle.mount_ring.specs.declared.call.RingAnswer.TheVariants as answers
use Rattle.rover_cursor.specs.declared.segment.Segment.{Segment}
use Rattle.session_calls.specs.Steps.{Answer, of_ring, of_book, to_ring}
use Rattle.session_calls.specs.Plans.{Plan, done, asks}

-- what a rover was admitted to
pub record Terms : Type 0 where
  -- whether it takes the nearest base, by its reports
  pub near : Bool
  -- the number of its filter at each mountpoint
  pub filter : ℕ
  -- by how many percent of the distance another base must be nearer
  pub hysteresis : ℕ
  pub bases : List Base

-- the base, where it is held
abbrev pub if_live : Base → Option ℕ → List Base
if_live base None = []
if_live base (Some claim) = base ∷ []

abbrev pub if_looked : Base → RingAnswer → List Base
if_looked base (answers.Given claim) = []
if_looked base (answers.Taken caller claim) = []
if_looked base answers.Released = []
if_looked base (answers.At place) = []
if_looked base (answers.Joined cursor) = []
if_looked base (answers.Looked live) = if_live base live
if_looked base (answers.Read report) = []

abbrev pub if_held : Base → Answer → List Base
if_held base (of_ring answer) = if_looked base answer
if_held base (of_book answer) = []

-- one Look on each base, in order, and then what follows from those that are held
abbrev pub looks : List Base → List Base → (List Base → Plan) → Plan
looks [] held next = next held
looks (base ∷ bases) held next =
    asks (to_ring base.mount Look) (λ answer. looks bases (held ++ if_held base answer) next)

-- the mountpoint that is chosen among the bases that are held; where none is, it stays
abbrev pub chooses : ℕ → Option ℕ → Position → List Base → Option ℕ
chooses hysteresis present rover [] = present
chooses hysteresis present rover (base ∷ bases) =
    choice_of present rover (base ∷ bases) hysteresis

-- the mountpoint that is chosen, where it is not the present one
abbrev pub changed : Option ℕ → Option ℕ → Option ℕ
changed present None = None
changed None (Some mount) = Some mount
changed (Some base) (Some mount) = if base == mount then None else Some mount

-- a Join at this mountpoint, if there is one, and then what follows
abbrev pub joins : ℕ → Option ℕ → Plan → Plan
joins filter None next = next
joins filter (Some mount) next = asks (to_ring mount (Join filter)) (λ answer. next)

-- of a near rover, from its present base on, for each of these reports
abbrev pub follows : Terms → Option ℕ → List Position → Plan
follows terms present [] = done
follows terms present (rover ∷ later) =
    looks terms.bases [] (λ held.
    joins terms.filter (changed present (chooses terms.hysteresis present rover held))
    (follows terms (chooses terms.hysteresis present rover held) later))

-- of a rover that is not near
abbrev pub joins_each : ℕ → List Base → Plan
joins_each filter [] = done
joins_each filter (base ∷ bases) =
    asks (to_ring base.mount (Join filter)) (λ answer. joins_each filter bases)

abbrev pub plan_by : (near : Bool) → Terms → List Position → Plan
plan_by false terms told = joins_each terms.filter terms.bases
plan_by true terms told = follows terms None told

-- all that a rover owes for the report of its head, if there was one, and the bytes that it sent
abbrev pub rover_plan : Terms → Option Position → List ℕ → Plan
rover_plan terms first bytes =
    plan_by terms.near terms (option_to_list first ++ reports bytes)

-- what further reports ask of a rover that joined this base last: nothing, where it is not near
abbrev pub heeds : (near : Bool) → Terms → Option ℕ → List Position → Plan
heeds false terms present new = done
heeds true terms present new = follows terms present new

-- what a turn asks of a rover with these segments, the newest first: one Read from where the newest
-- stands, or nothing where there is none
abbrev pub reads : ℕ → List Segment → Plan
reads budget [] = done
reads budget (segment ∷ older) =
    asks (to_ring segment.mount (Read segment.cursor budget)) (λ answer. done)
