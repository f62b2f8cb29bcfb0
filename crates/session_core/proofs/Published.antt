-- What a source or a relay adds at the ring of its mountpoint, one of several.
use Rattle.std.specs.Prelude.{ℕ, Bool, List, [], ◌∷◌, ◌++◌}
use Rattle.turn_log.specs.History.{History}
use Rattle.mount_ring.specs.declared.call.RingCall.{RingCall}
use Rattle.mount_ring.specs.declared.call.RingCall.TheVariants.{Claim}
use Rattle.mount_ring.specs.declared.call.RingAnswer.TheVariants as answers
use Rattle.mount_ring.specs.declared.shape.RingShape.{RingShape}
use Rattle.session_calls.specs.Steps.{Step, at_ring}
use Rattle.session_calls.specs.Rings.{Went}
use Rattle.source_session.specs.declared.fault.ClaimFault.{ClaimFault}
use Rattle.source_session.specs.declared.fault.ClaimFault.TheVariants as claims
use Rattle.upstream_relay.specs.declared.session.RelaySession.{RelaySession}
use Rattle.upstream_relay.specs.Owed.{publishing, IsDone}
use Rattle.upstream_relay.specs.Standing.{StandsFor}

-- these frames were published under this claim, one call each and nothing else; where a turn was
-- refused, the first of them
pub record Published (shapes : List RingShape) (alone : Bool) (old now : List (History RingCall))
    (me mount claim : ℕ) (refused : Bool) (frames : List (List ℕ)) : Type 0 where
  pub more : List Step
  pub went : Went shapes alone old now me more
  pub made : IsDone refused (publishing mount claim frames) more

-- what was called where a claim was not given
abbrev pub steps_unclaimed : ℕ → ClaimFault → List Step
steps_unclaimed mount (claims.Taken caller claim) =
    at_ring mount Claim (answers.Taken caller claim) ∷ []
steps_unclaimed mount (claims.Worn given) = []
steps_unclaimed mount claims.Memory = []

-- what a relay adds where it is fed: its calls at the ring of its mountpoint, with which it stands
-- for the longer answer
pub record RelayFed (shapes : List RingShape) (alone : Bool) (old now : List (History RingCall))
    (me mount : ℕ) (session : RelaySession) (answer : List ℕ) (steps : List Step) : Type 0 where
  pub more : List Step
  pub went : Went shapes alone old now me more
  pub stands : StandsFor mount session answer (steps ++ more)
