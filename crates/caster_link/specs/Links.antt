-- What a link did while it was served, and what happened to its connection by that.
use Rattle.std.specs.Prelude.{◌≡◌, ℕ, ◌^◌, ◌≤◌, ◌⊎◌, ⊤, Bool, true, false, IsTrue, List, [], ◌∷◌, ◌++◌, Option, None, Some}
use Rattle.std.specs.List.{flat_map}
use Rattle.cast_io.specs.declared.steps.Step.{Step}
use Rattle.cast_io.specs.declared.steps.Step.TheVariants as took
use Rattle.cast_io.specs.Causes.{Rose}
use Rattle.cast_io.specs.Told.{LinkTold, Grew}
use Rattle.session_model.specs.declared.ending.Last.{Last}
use Rattle.session_model.specs.declared.ending.Last.TheVariants as lasts
use Rattle.session_model.specs.Judged.{Opening, sends_head, relays}
use Rattle.session_model.specs.Owed.{Happening, arrives, takes_turn}
use Rattle.caster_link.specs.declared.role.Role.{Role}
use Rattle.caster_link.specs.declared.role.Role.TheVariants as roles

-- how a connection opens that is served so
abbrev pub opening_of : Role → Opening
opening_of roles.Caller = sends_head
opening_of (roles.Relay number) = relays number

-- a link took these steps and was given these bytes
pub record LinkGrew (before after : LinkTold) (taken : List Step) (written : List ℕ) : Type 0 where
  pub given : after.given ≡ before.given
  pub steps : Grew before.taken after.taken taken
  pub bytes : Grew before.bytes after.bytes written
  pub later : before.faults ≤ after.faults

-- Bytes arrive, and then a turn is taken; where nothing was there, a turn is taken.
abbrev pub happens_by : Step → List Happening
happens_by (took.Bytes bytes) = arrives bytes ∷ takes_turn 16 ∷ []
happens_by took.Idle = takes_turn 16 ∷ []
happens_by took.End = []
happens_by took.ReadFailed = []
happens_by took.WriteFailed = []

abbrev pub happens_in : List Step → List Happening
happens_in taken = flat_map happens_by taken

-- all of that happened, but that no turn follows bytes that ended the connection
abbrev pub IsLeftOut : (ended : Bool) → List Happening → Type 0
IsLeftOut false missing = missing ≡ []
IsLeftOut true missing = (missing ≡ []) ⊎ (missing ≡ takes_turn 16 ∷ [])

-- how a step closes the connection, if it does
abbrev pub closes_by : Step → Option Last
closes_by (took.Bytes bytes) = None
closes_by took.Idle = None
closes_by took.End = Some lasts.End
closes_by took.ReadFailed = Some lasts.ReadFault
closes_by took.WriteFailed = Some lasts.WriteFault

-- The last step that was taken closed the connection so; or it had ended before, or it had been
-- given 2^62 bytes or more, and then it came to its end.
abbrev pub Stopped : (ended : Bool) → ℕ → List Step → Last → Type 0
Stopped ended count taken last =
    ((before : List Step) × (step : Step) × (taken ≡ before ++ step ∷ [])
    × (closes_by step ≡ Some last))
    ⊎ ((last ≡ lasts.End) × (IsTrue ended ⊎ (2 ^ 62 ≤ count)))

-- a fault of the link is told only where its count rose
abbrev pub IsCausedBy : Last → ℕ → ℕ → Type 0
IsCausedBy lasts.End before after = ⊤
IsCausedBy lasts.ReadFault before after = Rose before after
IsCausedBy lasts.WriteFault before after = Rose before after

-- whether a write was torn
abbrev pub is_torn : Last → Bool
is_torn lasts.End = false
is_torn lasts.ReadFault = false
is_torn lasts.WriteFault = true
