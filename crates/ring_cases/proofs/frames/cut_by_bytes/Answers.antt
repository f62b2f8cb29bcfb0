use Rattle.std.proofs.Common.{ℕ, List, sym, subst}
use Rattle.std.proofs.lemmas.List.{take_more}
use Rattle.rtcm_frame.specs.Pending.{Gave}
use Rattle.ring_cases.proofs.frames.cut_by_bytes.Goals as goal

pub loop-frame-init : goal.loop-frame-init
loop-frame-init c =
    subst (λ (all : List ℕ). Gave c.loop-byte.frames.items all c.push.new.self)
    (sym (take_more c.args.bytes.now c.loop-byte.byte-index 0 c.loop-byte-test.true))
    (c.push.ensures.stands _ _ c.loop-byte.invariant.gave)
