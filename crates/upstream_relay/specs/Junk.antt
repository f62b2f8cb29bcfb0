-- How many bytes of a relay's body were no part of a frame.
use Rattle.std.specs.Prelude.{◌≡◌, ◌≤◌, ◌⊎◌, ℕ, Bool, IsTrue, List, drop}
use Rattle.rtcm_frame.specs.Cut.{cut}
use Rattle.session_calls.specs.Steps.{Step}
use Rattle.source_session.specs.Body.{payload}
use Rattle.ntrip_client.specs.declared.Answer.TheVariants.{Accepted}
use Rattle.ntrip_client.specs.Answer.{IsAnswer}
use Rattle.upstream_relay.specs.declared.session.RelaySession.{RelaySession}
use Rattle.upstream_relay.specs.Standing.{StandsFor, is_short_at}

-- those of the bytes that the body behind the head carries
abbrev pub junk_of : (chunked : Bool) → ℕ → List ℕ → ℕ
junk_of chunked at bytes = (cut (payload chunked (drop at bytes))).junk

-- exactly so many, unless a turn was refused
abbrev pub IsJunk : RelaySession → ℕ → Type 0
IsJunk session junk =
    (mount : ℕ) (bytes : List ℕ) (steps : List Step) (at : ℕ) (chunked : Bool)
    → StandsFor mount session bytes steps → IsAnswer bytes (Accepted at chunked)
    → IsTrue (is_short_at session.stage) ⊎ (junk ≡ junk_of chunked at bytes)

-- and never more
abbrev pub IsAtMostJunk : RelaySession → ℕ → Type 0
IsAtMostJunk session junk =
    (mount : ℕ) (bytes : List ℕ) (steps : List Step) (at : ℕ) (chunked : Bool)
    → StandsFor mount session bytes steps → IsAnswer bytes (Accepted at chunked)
    → junk ≤ junk_of chunked at bytes
