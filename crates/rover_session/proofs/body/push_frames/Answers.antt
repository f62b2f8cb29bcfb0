use Rattle.std.proofs.Common.{ℕ, List, ◌++◌, IsTrue, ap, ◌∙◌, sym, arith, append_assoc}
use Rattle.rtcm_frame.specs.Transport.{is_frame}
use Rattle.rover_session.specs.Body.{frame_sent, body_of}
use Rattle.std.specs.Prelude.{take}
use Rattle.rover_session.proofs.LawLemmas.{body_more, all_more}
use Rattle.rover_session.proofs.body.push_frames.Goals as goal

pub loop-frame-preserved : goal.loop-frame-preserved
loop-frame-preserved c =
    let frames : List (List ℕ) = c.args.frames.now in
    let i : ℕ = c.loop-frame.frame-index in
    let frame : List ℕ = c.frame-item.result in
    let version = c.args.version in record {
      valid = all_more (λ (f : List ℕ). IsTrue (is_frame f)) frames i frame c.loop-frame-test.true c.frame-item.is
          c.loop-frame.invariant.valid c.in_ok-push_frame.ensures.valid;
      items = c.in_ok-push_frame.ensures.ok
          ∙ ap (λ (l : List ℕ). l ++ frame_sent version frame) c.loop-frame.invariant.items
          ∙ append_assoc c.args.out.now.items (body_of version (take i frames)) (frame_sent version frame)
          ∙ ap (λ (l : List ℕ). c.args.out.now.items ++ l)
          (sym (body_more version frames i frame c.loop-frame-test.true c.frame-item.is));
      room = λ room.
          omega (
            arith,
            c.in_ok-push_frame.ensures.len,
            c.in_ok-push_frame.ensures.capacity,
            c.loop-frame.invariant.room room,
            c.loop-frame-test.true,
          );
    }
