-- What a connection holds when it is closed, and how it is given back.
use Rattle.std.specs.Prelude.{◌≡◌, ℕ, ◌<◌, ◌≤◌, ◌⊎◌, ⊤, Bool, IsTrue, List, [], length, Option, None, Some, IfSome, IfNone}
use Rattle.mount_ring.specs.declared.call.RingCall.TheVariants.{Release}
use Rattle.caster_accounts.specs.declared.call.BookCall.TheVariants.{Leave}
use Rattle.caster_accounts.specs.History.{may_leave}
use Rattle.session_calls.specs.Steps.{Step, to_ring, to_book}
use Rattle.session_calls.specs.Plans.{Plan, done, asks, IsMade}
use Rattle.session_calls.specs.Rings.{history_at}
use Rattle.rtcm_frame.specs.Cut.{cut}
use Rattle.rover_cursor.specs.declared.segment.Segment.{Segment}
use Rattle.source_session.specs.declared.session.SourceSession.{SourceSession}
use Rattle.source_session.specs.Body.{payload}
use Rattle.source_session.specs.Calls.{HeldSince}
use Rattle.source_session.specs.Standing as source_standing
use Rattle.upstream_relay.specs.declared.session.RelaySession.{RelaySession}
use Rattle.upstream_relay.specs.Junk.{IsJunk, IsAtMostJunk}
use Rattle.upstream_relay.specs.Standing as relay_standing
use Rattle.rover_session.specs.Made.{sent_in, overrun_in}
use Rattle.cast_config.specs.declared.config.Config.{Config}
use Rattle.session_core.specs.declared.session.Session.{Session}
use Rattle.session_core.specs.declared.session_stage.SessionStage.{SessionStage}
use Rattle.session_core.specs.declared.session_stage.SessionStage.TheVariants.{Source, Relay, Rover}
use Rattle.session_model.specs.declared.ending.Ending.{Ending}
use Rattle.session_model.specs.declared.ending.Ending.TheVariants as endings
use Rattle.session_model.specs.Run.{Histories}
use Rattle.session_model.specs.Called.{Called}

-- a claim is given back, if one is held
abbrev pub releasing : ℕ → Option ℕ → Plan
releasing mount None = done
releasing mount (Some claim) = asks (to_ring mount (Release claim)) (λ answer. done)

-- the one turn that gives back what is held, or none
abbrev pub closing_at : SessionStage → Plan
closing_at (Source mount session) = releasing mount (Some session.claim)
closing_at (Relay mount session) = releasing mount (relay_standing.claim_at session.stage)
closing_at (Rover account session) =
    asks (to_book (Leave account (sent_in session.segments) (overrun_in session.segments)))
    (λ answer. done)
closing_at _ = done

-- what a connection makes when it is closed
abbrev pub closing_of : Session → Plan
closing_of session = closing_at session.stage

-- the claim or the account is held by this caller, under these caps of accounts
abbrev pub IsHeldBy : List ℕ → ℕ → Histories → SessionStage → Type 0
IsHeldBy caps me histories (Source mount session) =
    (session.me ≡ me) × (mount < length histories.rings)
    × HeldSince me session.claim (history_at histories.rings mount)
IsHeldBy caps me histories (Relay mount session) =
    (session.me ≡ me) × (mount < length histories.rings)
    × IfSome (relay_standing.claim_at session.stage)
    (λ claim. HeldSince me claim (history_at histories.rings mount))
    × (text : List ℕ) × (steps : List Step)
    × relay_standing.StandsFor mount session text steps
IsHeldBy caps me histories (Rover account session) =
    IsTrue (may_leave caps histories.book me account)
IsHeldBy caps me histories _ = ⊤

-- ---- what is told of it

-- how it ends if it comes to its end now
abbrev pub end_claimed : Option ℕ → Ending
end_claimed None = endings.NoHead
end_claimed (Some claim) = endings.SourceEnd claim

abbrev pub end_at : SessionStage → Ending
end_at (Source mount session) = endings.SourceEnd session.claim
end_at (Relay mount session) = end_claimed (relay_standing.claim_at session.stage)
end_at (Rover account session) = endings.RoverEnd
end_at _ = endings.NoHead

-- the segments of a rover, the newest first
abbrev pub segments_at : SessionStage → List Segment
segments_at (Rover account session) = session.segments
segments_at _ = []

-- the bytes of a source's payload that were no part of a frame: exactly so many, unless a turn was
-- refused, and never more
pub record IsSourceJunk (session : SourceSession) (junk : ℕ) : Type 0 where
  pub exact : (body : List ℕ) → source_standing.StandsFor session body
      → IsTrue (source_standing.is_cut_short session.halt)
      ⊎ (junk ≡ (cut (payload (source_standing.is_chunked session) body)).junk)
  pub at_most : (body : List ℕ) → source_standing.StandsFor session body
      → junk ≤ (cut (payload (source_standing.is_chunked session) body)).junk

-- and of a relay, which without a claim has none
pub record IsRelayJunk (session : RelaySession) (junk : ℕ) : Type 0 where
  pub unclaimed : IfNone (relay_standing.claim_at session.stage) (junk ≡ 0)
  pub exact : IfSome (relay_standing.claim_at session.stage) (λ claim. IsJunk session junk)
  pub at_most : IfSome (relay_standing.claim_at session.stage) (λ claim. IsAtMostJunk session junk)

abbrev pub IsJunkAt : SessionStage → ℕ → Type 0
IsJunkAt (Source mount session) junk = IsSourceJunk session junk
IsJunkAt (Relay mount session) junk = IsRelayJunk session junk
IsJunkAt _ junk = junk ≡ 0

-- ---- what is called

-- all of a plan was made, and no other call of the caller's
pub record Makes (c : Config) (alone : Bool) (old now : Histories) (me : ℕ) (plan : Plan)
    : Type 0 where
  pub more : List Step
  pub called : Called c alone old now me more
  pub made : IsMade plan more
