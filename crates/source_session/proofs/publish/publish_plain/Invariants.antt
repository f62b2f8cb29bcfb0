-- the frames that the bytes so far complete were published, and the cutter waits for more
use Rattle.std.proofs.Common.{ℕ, ◌-◌, ◌≤◌, List, length, take, None}
use Rattle.source_session.specs.Calls.{IsHolding}
use Rattle.source_session.specs.Places.{Stays}
use Rattle.source_session.specs.Standing.{StandsBy}
use Rattle.source_session.specs.Taken.{TookMore}
use Rattle.source_session.proofs.publish.publish_plain.Given as goal

abbrev pub invariant-loop-at : goal.invariant-loop-at
invariant-loop-at g l =
    let place = g.T.Turns in
    Stays place l.fn.place l.place
    × IsHolding l.me l.claim (place.seen l.place)
    × (l.at ≤ length l.bytes)
    × ((body : List ℕ) → StandsBy None None l.fn.cutter body
    → TookMore place l.fn.place l.place l.me l.claim None None l.cutter body (take l.at l.bytes))

abbrev pub decreases-loop-at : goal.decreases-loop-at
decreases-loop-at g l = length l.bytes - l.at
