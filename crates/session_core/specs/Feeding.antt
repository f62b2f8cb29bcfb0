-- How a connection goes on with the bytes that come after its head.
use Rattle.std.specs.Prelude.{◌≡◌, ℕ, ◌⊎◌, Bool, List, ◌++◌, Option, unwrap_or}
use Rattle.source_session.specs.declared.fault.SourceHalt.{SourceHalt}
use Rattle.source_session.specs.declared.fault.SourceHalt.TheVariants as sources
use Rattle.upstream_relay.specs.declared.fault.RelayHalt.{RelayHalt}
use Rattle.upstream_relay.specs.declared.fault.RelayHalt.TheVariants as relays
use Rattle.session_calls.specs.Steps.{Step}
use Rattle.rover_session.specs.Made.{owed_among}
use Rattle.cast_config.specs.declared.config.Config.{Config}
use Rattle.session_model.specs.declared.ending.Ending.{Ending}
use Rattle.session_model.specs.declared.ending.Ending.TheVariants as endings
use Rattle.session_core.specs.declared.session.Session.{Session}
use Rattle.session_core.specs.declared.session_stage.SessionStage.{SessionStage}
use Rattle.session_core.specs.declared.session_stage.SessionStage.TheVariants.{Head, Over}
use Rattle.session_model.specs.Headings.{Heading, IsHeading}
use Rattle.session_model.specs.Judged.{Opening, heading_judged}
use Rattle.session_model.specs.Run.{Histories}
use Rattle.session_model.specs.Called.{Called}
use Rattle.session_core.specs.Standing.{Stands}
use Rattle.session_core.specs.Begun.{Begins, IsLostAt}

-- a source, under this claim, whose body is over or whose frame was not published
abbrev pub end_of_source : ℕ → SourceHalt → Ending
end_of_source claim sources.Done = endings.SourceEnd claim
end_of_source claim (sources.BadChunk place) = endings.BadChunk place
end_of_source claim (sources.Worn given) = endings.Worn given
end_of_source claim sources.Memory = endings.Memory

-- a relay, whose body can be over only under a claim
abbrev pub end_of_relay : Option ℕ → RelayHalt → Ending
end_of_relay claim relays.BadHead = endings.BadHead
end_of_relay claim relays.LongHead = endings.LongHead
end_of_relay claim relays.Coding = endings.Coding
end_of_relay claim relays.Table = endings.UpstreamTable
end_of_relay claim (relays.Status status) = endings.Upstream status
end_of_relay claim (relays.Taken caller held) = endings.Taken caller held
end_of_relay claim relays.Done = endings.SourceEnd (unwrap_or claim 0)
end_of_relay claim (relays.BadChunk place) = endings.BadChunk place
end_of_relay claim (relays.Worn given) = endings.Worn given
end_of_relay claim relays.Memory = endings.Memory

-- the connection's head is whole, or it has none
abbrev pub IsBehindHead : SessionStage → Type 0
IsBehindHead (Head head) = ⊥
IsBehindHead Over = ⊥
IsBehindHead _ = Unit {0}

-- A connection whose head these bytes are was begun by what they say of it.
pub record HasBegun (c : Config) (alone : Bool) (old now : Histories) (me : ℕ) (front : List ℕ)
    (stage : SessionStage) (ended : Option Ending) (before after : List ℕ) : Type 0 where
  pub heading : Heading
  pub is_heading : IsHeading front heading
  pub begins : Begins c alone old now me (heading_judged c heading front) stage ended before after

-- so it was, or memory was lacking before anything was called or appended
abbrev pub HasBegunFor : Config → (alone : Bool) → Histories → Histories → ℕ → List ℕ → SessionStage
    → Option Ending → List ℕ → List ℕ → Type 0
HasBegunFor c alone old now me front stage ended before after =
    HasBegun c alone old now me front stage ended before after
    ⊎ IsLostAt old now stage ended before after

-- More bytes made further steps, none of which is a read, and the session stands with them for all
-- bytes so far. Nothing was sent for them.
pub record FedOn (c : Config) (alone : Bool) (old now : Histories) (session : Session)
    (opening : Opening) (text : List ℕ) (steps : List Step) (sent : List ℕ) : Type 0 where
  pub more : List Step
  pub called : Called c alone old now session.me more
  pub no_read : owed_among more ≡ more
  pub stands : Stands c session opening text (steps ++ more) now sent
