use Rattle.std.proofs.Common.{ℕ, List, IsTrue, arith, subst, sym}
use Rattle.rtcm_frame.specs.Transport.{is_frame}
use Rattle.rtcm_frame.proofs.FrameLemmas.{frame_padded_again}
use Rattle.rtcm_frame.proofs.framing.Frame.copy_from.Goals as goal

pub invariant_of-self : goal.invariant_of-self
invariant_of-self c =
    let valid = subst (λ (xs : List ℕ). IsTrue (is_frame xs)) (sym c.bytes-bytes.ensures.value)
    c.bytes-bytes.ensures.valid in
    frame_padded_again c.self.inside c.bytes-bytes.result.now c.clear.new.all c.put_front.new.all c.min.result
    c.self.invariant valid (omega (arith, c.min.ensures)) (omega (arith, c.min.ensures))
    c.clear.ensures c.put_front.ensures
