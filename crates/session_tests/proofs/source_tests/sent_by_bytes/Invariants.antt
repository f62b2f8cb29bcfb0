-- the session stands for the bytes so far, and holds the mountpoint where it goes on
use Rattle.std.proofs.Common.{◌≡◌, ◌<◌, ℕ, List, length}
use Rattle.std.specs.Prelude.{IfNone}
use Rattle.turn_log.specs.Desks.{desk_seen, desk_shape}
use Rattle.source_session.specs.Calls.{IsHolding}
use Rattle.source_session.specs.Standing.{StandsFor}
use Rattle.session_tests.proofs.source_tests.sent_by_bytes.Given as goal

abbrev pub invariant-loop-byte : goal.invariant-loop-byte
invariant-loop-byte l =
    IfNone l.session.halt (IsHolding l.session.me l.session.claim (desk_seen l.desk))
    × ((body : List ℕ) × StandsFor l.session body × (length body ≡ l.byte-index))
    × (0 < length (desk_shape l.desk).filters)
