use Rattle.std.proofs.Common.{◌≡◌, ℕ, ◌+◌, ◌-◌, ◌*◌, ◌≤◌, IsTrue, List, ◌++◌, length, take, vec_len}
use Rattle.std.specs.List.{All}
use Rattle.rtcm_frame.specs.Transport.{is_frame}
use Rattle.std.specs.Vec.{vec_capacity}
use Rattle.rover_session.specs.Body.{body_of}
use Rattle.rover_session.proofs.body.push_frames.Given as goal

abbrev pub invariant-loop-frame : goal.invariant-loop-frame
invariant-loop-frame l = record {
  valid : All (λ (frame : List ℕ). IsTrue (is_frame frame)) (take l.frame-index l.frames);
  items : l.out.items ≡ l.fn.out.items ++ body_of l.version (take l.frame-index l.frames);
  room :
      vec_len l.fn.out + 1036 * length l.frames ≤ vec_capacity l.fn.out
      → vec_len l.out + 1036 * (length l.frames - l.frame-index) ≤ vec_capacity l.out;
}
