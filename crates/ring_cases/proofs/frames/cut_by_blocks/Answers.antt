use Rattle.std.proofs.Common.{ℕ, List, subst}
use Rattle.rtcm_frame.specs.Pending.{Gave}
use Rattle.rtcm_frame.proofs.PendingLemmas.{fed_front}
use Rattle.ring_cases.proofs.frames.cut_by_blocks.Goals as goal

pub loop-frame-init : goal.loop-frame-init
loop-frame-init c =
    subst (λ (all : List ℕ). Gave c.loop-at.frames.items all c.feed-at.new.self)
    (fed_front c.args.bytes.now c.loop-at.at c.feed-at.result)
    (c.feed-at.ensures.stands _ _ c.loop-at.invariant.gave)
