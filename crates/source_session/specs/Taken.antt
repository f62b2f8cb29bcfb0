-- What more of a body comes to at the place of its mountpoint.
use Rattle.std.specs.Prelude.{◌++◌, ℕ, IsTrue, List, Option, Result, IfErr, is_some}
use Rattle.std.specs.Result.{result_err}
use Rattle.rtcm_frame.specs.Pending.{Pending}
use Rattle.turn_log.specs.declared.place.Turns.{Ghosts}
use Rattle.chunk_body.specs.Machine.{Reading}
use Rattle.mount_ring.specs.declared.Ring.{Ring}
use Rattle.mount_ring.specs.declared.Outbox.{Outbox}
use Rattle.mount_ring.specs.declared.RingCall.{RingCall}
use Rattle.mount_ring.specs.declared.RingAnswer.{RingAnswer}
use Rattle.mount_ring.specs.declared.RingShape.{RingShape}
use Rattle.source_session.specs.declared.fault.SourceHalt.{SourceHalt}
use Rattle.source_session.specs.declared.session.SourceSession.{SourceSession}
use Rattle.source_session.specs.Body.{completed}
use Rattle.source_session.specs.Calls.{IsHolding}
use Rattle.source_session.specs.Places.{PublishedBy, LeftOutIn}
use Rattle.source_session.specs.Refusals.{IsHaltOf}
use Rattle.source_session.specs.Standing.{StandsBy, StandsFor, is_chunked, is_cut_short, junk_of}

-- More came of a body that went on, and was taken until this halt, if there was one.
pub record TookMore {P : Type 0} (ring : Ghosts P Ring RingCall RingAnswer Outbox RingShape)
    (old now : P) (me claim : ℕ) (halt : Option SourceHalt) (chunks : Option Reading)
    (cutter : Pending) (body more : List ℕ) : Type 0 where
  -- where the body stands with it
  pub stands : StandsBy halt chunks cutter (body ++ more)
  -- the frames that it completes were published
  pub heard : PublishedBy ring old now me claim halt (completed (is_some chunks) body more)
  -- where a turn was refused, which frame that left out
  pub short : IsTrue (is_cut_short halt)
      → LeftOutIn ring old now me claim (is_some chunks) body more cutter.junk

-- A session that nothing had halted took these bytes, and answered so.
pub record HasTaken {P X : Type 0} (ring : Ghosts P Ring RingCall RingAnswer Outbox RingShape)
    (old now : P) (before after : SourceSession) (bytes : List ℕ) (fed : Result X SourceHalt)
    : Type 0 where
  -- it holds the mountpoint still, even if it was halted
  pub holds : IsHolding before.me before.claim (ring.seen now)
  -- where a turn was refused, which frame that left out, whatever the body before
  pub short : IsTrue (is_cut_short (result_err fed)) → (body : List ℕ) → StandsFor before body
      → LeftOutIn ring old now before.me before.claim (is_chunked before) body bytes
      (junk_of after)
  -- it was halted by its body, or because the place refused a turn
  pub cause : IfErr fed (IsHaltOf (ring.may_lack old) (ring.worn now))
