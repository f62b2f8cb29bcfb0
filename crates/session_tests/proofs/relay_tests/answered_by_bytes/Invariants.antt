-- the relay stands for the bytes so far, and holds the mountpoint where it goes on
use Rattle.std.proofs.Common.{◌≡◌, ◌<◌, ℕ, List, length}
use Rattle.std.specs.Prelude.{IfNone}
use Rattle.turn_log.specs.Desks.{desk_seen, desk_shape}
use Rattle.session_calls.specs.Steps.{Step}
use Rattle.upstream_relay.specs.Standing.{StandsFor, halt_at, claim_at}
use Rattle.upstream_relay.specs.Called.{IsHoldingBy}
use Rattle.session_tests.proofs.relay_tests.answered_by_bytes.Given as goal

abbrev pub invariant-loop-byte : goal.invariant-loop-byte
invariant-loop-byte l =
    IfNone (halt_at l.relay.stage) (IsHoldingBy l.relay.me (claim_at l.relay.stage) (desk_seen l.desk))
    × ((mount : ℕ) × (before : List ℕ) × (steps : List Step) × StandsFor mount l.relay before steps
    × (length before ≡ l.byte-index))
    × (0 < length (desk_shape l.desk).filters)
