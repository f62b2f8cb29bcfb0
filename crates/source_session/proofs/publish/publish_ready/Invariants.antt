-- the frames that were given so far were published; each turn leaves one frame fewer to give
use Rattle.std.proofs.Common.{length}
use Rattle.rtcm_frame.specs.Cut.{cut}
use Rattle.source_session.specs.Calls.{IsHolding}
use Rattle.source_session.specs.Places.{Stays, ring_answer}
use Rattle.source_session.proofs.CallLemmas.{GivenSoFar}
use Rattle.source_session.proofs.publish.publish_ready.Given as goal

abbrev pub invariant-loop-frame : goal.invariant-loop-frame
invariant-loop-frame g l =
    let place = g.T.Turns in
    Stays place l.fn.place l.place
    × IsHolding l.me l.claim (place.seen l.place)
    × GivenSoFar (place.alone l.fn.place) (ring_answer (place.shape l.fn.place)) (place.seen l.fn.place)
    (place.seen l.place) l.me l.claim l.fn.cutter l.cutter

abbrev pub decreases-loop-frame : goal.decreases-loop-frame
decreases-loop-frame g l = length (cut l.cutter.bytes).frames
