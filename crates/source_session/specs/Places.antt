-- What contracts say of a place before and after a call. What the place is asked for is given as
-- T.Turns.
use Rattle.std.specs.Prelude.{◌≤◌, ℕ, Bool, List, Option}
use Rattle.turn_log.specs.History.{History}
use Rattle.turn_log.specs.Turn.{SamePlace}
use Rattle.turn_log.specs.Heard.{Heard}
use Rattle.turn_log.specs.declared.place.Turns.{Ghosts}
use Rattle.mount_ring.specs.declared.Ring.{Ring}
use Rattle.mount_ring.specs.declared.Outbox.{Outbox}
use Rattle.mount_ring.specs.declared.RingCall.{RingCall}
use Rattle.mount_ring.specs.declared.RingAnswer.{RingAnswer}
use Rattle.mount_ring.specs.declared.RingShape.{RingShape}
use Rattle.mount_ring.specs.Shapes.{shape_of}
use Rattle.mount_ring.specs.History.{state_of, answer}
use Rattle.source_session.specs.declared.fault.ClaimFault.{ClaimFault}
use Rattle.source_session.specs.declared.fault.SourceHalt.{SourceHalt}
use Rattle.source_session.specs.Calls.{publishes, HeardBy, IsRefusedAt, IsRefusedIn, IsUnclaimed}

-- the place stays itself over a call, whatever it is the place of
pub record Stays {P V C A R S : Type 0} (turns : Ghosts P V C A R S) (old now : P) : Type 0 where
  -- its object has the same shape, and it speaks for the same callers, as before
  pub same : SamePlace turns.shape turns.speaks turns.may_lack turns.alone turns.home old now
  -- it was worn by no fewer turns
  pub worn : turns.worn old ≤ turns.worn now

-- what a ring of this shape answers
abbrev pub ring_answer : RingShape → History RingCall → ℕ → RingCall → RingAnswer
ring_answer shape h me call = answer (shape_of shape) (state_of h) call

-- at the ring of a mountpoint
module _ {P : Type 0} (ring : Ghosts P Ring RingCall RingAnswer Outbox RingShape) (old now : P)
    (me : ℕ) where
  -- these are all the calls that the caller made there, with what each was answered
  abbrev pub HeardAt : List (RingCall × RingAnswer) → Type 0
  HeardAt pairs =
      Heard (ring.alone old) (ring_answer (ring.shape old)) (ring.seen old) (ring.seen now) me pairs

  -- it published these frames under its claim there, or by a refused turn the first of them
  abbrev pub PublishedBy : ℕ → Option SourceHalt → List (List ℕ) → Type 0
  PublishedBy claim halt frames =
      HeardBy halt (ring.alone old) (ring_answer (ring.shape old)) (ring.seen old) (ring.seen now)
      me (publishes claim frames)

  -- a turn was refused there, which left one of these frames out
  abbrev pub LeftOutAt : ℕ → List (List ℕ) → List ℕ → ℕ → ℕ → Type 0
  LeftOutAt claim frames bytes before junk =
      IsRefusedAt (ring.alone old) (ring_answer (ring.shape old)) (ring.seen old) (ring.seen now)
      me claim frames bytes before junk

  -- or one that more of a body completes
  abbrev pub LeftOutIn : ℕ → (chunked : Bool) → List ℕ → List ℕ → ℕ → Type 0
  LeftOutIn claim chunked body more junk =
      IsRefusedIn (ring.alone old) (ring_answer (ring.shape old)) (ring.seen old) (ring.seen now)
      me claim chunked body more junk

  -- it was not given the claim there
  abbrev pub IsUnclaimedAt : ClaimFault → Type 0
  IsUnclaimedAt fault =
      IsUnclaimed fault (ring.alone old) (ring_answer (ring.shape old)) (ring.seen old)
      (ring.seen now) me
