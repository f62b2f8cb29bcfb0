-- What the turns of a source leave at a desk where a rover joined.
use Rattle.std.proofs.Common.{◌≡◌, ℕ, List, [], ◌∷◌, ◌++◌, refl}
use Rattle.turn_log.specs.History.{History, GoesOn}
use Rattle.turn_log.proofs.HistoryLaws.{goes_both}
use Rattle.mount_ring.specs.declared.RingCall.{RingCall}
use Rattle.mount_ring.specs.declared.RingCall.TheVariants.{Publish}

-- a frame that caller 1 published is no call of caller 2
pub published_goes : (start h now : History RingCall) (frame : List ℕ) → GoesOn 2 start h
    → now ≡ h ++ (1, Publish 1 frame) ∷ [] →
    GoesOn 2 start now
published_goes start h now frame goes is = goes_both 2 start h now goes ((1, Publish 1 frame) ∷ [], is, refl)
