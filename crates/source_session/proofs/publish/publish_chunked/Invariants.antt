-- the frames that the bytes so far complete were published, and the body goes on
use Rattle.std.proofs.Common.{ℕ, List, take, None, Some}
use Rattle.source_session.specs.Calls.{IsHolding}
use Rattle.source_session.specs.Places.{Stays}
use Rattle.source_session.specs.Standing.{StandsBy}
use Rattle.source_session.specs.Taken.{TookMore}
use Rattle.source_session.proofs.publish.publish_chunked.Given as goal

abbrev pub invariant-loop-byte : goal.invariant-loop-byte
invariant-loop-byte g l =
    let place = g.T.Turns in
    Stays place l.fn.place l.place
    × IsHolding l.me l.claim (place.seen l.place)
    × ((body : List ℕ) → StandsBy None (Some l.fn.chunks) l.fn.cutter body
    → TookMore place l.fn.place l.place l.me l.claim None (Some l.chunks) l.cutter body (take l.byte-index l.bytes))
