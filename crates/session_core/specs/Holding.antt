-- What a session holds, by what its connection came to.
use Rattle.std.specs.Prelude.{◌≡◌, ℕ, ⊤, List, Option, None, Some, IfSome, slice_get}
use Rattle.cast_config.specs.declared.config.Config.{Config}
use Rattle.session_model.specs.Judged.{Opening, relays, SourceTerms, RoverTerms, mount_fed}
use Rattle.session_model.specs.Owed.{Came, holding, inside}
use Rattle.session_core.specs.declared.held.Held.{Held}
use Rattle.session_core.specs.declared.held.Held.TheVariants.{Nothing, Rover, Source, Relay}
use Rattle.session_core.specs.Standing.{IsFree}

-- it is a source that was given this claim of this mountpoint
abbrev pub HoldsClaim : ℕ → ℕ → Came → Type 0
HoldsClaim mount claim came =
    (terms : SourceTerms) × (body : List ℕ) × (came ≡ holding terms body claim)
    × (terms.mount ≡ mount)

-- a relay holds nothing until it was given a claim
abbrev pub HoldsClaimIf : ℕ → Option ℕ → Came → Type 0
HoldsClaimIf mount None came = IsFree came
HoldsClaimIf mount (Some claim) came = HoldsClaim mount claim came

-- A connection that opened so and came to this holds this. Of a relay the mountpoint that it feeds
-- is told even where it holds nothing.
abbrev pub HoldsAs : Config → Opening → Came → Held → Type 0
HoldsAs c opening came Nothing = IsFree came
HoldsAs c opening came (Rover account) =
    (terms : RoverTerms) × (came ≡ inside terms) × (terms.admission.account ≡ account)
HoldsAs c opening came (Source mount claim) = HoldsClaim mount claim came
HoldsAs c opening came (Relay mount claim) =
    (number : ℕ) × (opening ≡ relays number) × (mount_fed (slice_get c.relay number) ≡ mount)
    × HoldsClaimIf mount claim came

-- What is held later where this was held before: an account or a claim that is held stays what it
-- is until it is given back. A relay stays at its mountpoint, and may be given a claim where it had
-- none.
abbrev pub HoldsOn : Held → Held → Type 0
HoldsOn Nothing later = ⊤
HoldsOn (Rover account) later = later ≡ Rover account
HoldsOn (Source mount claim) later = later ≡ Source mount claim
HoldsOn (Relay mount claim) later =
    (given : Option ℕ) × (later ≡ Relay mount given) × IfSome claim (λ number. given ≡ Some number)

-- it holds something, so its head is behind it
abbrev pub IsHolding : Held → Type 0
IsHolding Nothing = ⊥
IsHolding held = ⊤
