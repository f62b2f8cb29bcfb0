-- none of the numbers so far goes on
use Rattle.std.proofs.Common.{◌≤◌, ℕ, false}
use Rattle.caster_replay.specs.Going.{GoesOn}
use Rattle.caster_record.specs.Recording.{events_in}
use Rattle.caster_record.proofs.recorder.Recorder.none_goes_on.Given as goal

abbrev pub invariant-loop-before : goal.invariant-loop-before
invariant-loop-before l =
    (k : ℕ) → 1 ≤ k → k ≤ l.before → GoesOn l.config (events_in l.self) k false
