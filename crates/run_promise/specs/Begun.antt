-- How a segment begins.
use Rattle.std.specs.Prelude.{◌≡◌, ℕ, List, ◌∷◌, ◌++◌, length}
use Rattle.turn_log.specs.History.{History}
use Rattle.mount_ring.specs.declared.call.RingCall.{RingCall}
use Rattle.mount_ring.specs.declared.call.RingCall.TheVariants.{Join}
use Rattle.rover_cursor.specs.declared.segment.Segment.{Segment}
use Rattle.rover_cursor.specs.Told.{published_in}
use Rattle.session_calls.specs.Rings.{history_at}

-- The segment was begun by a Join of this caller, with the segment's filter, that is an entry of
-- its mountpoint's history; and it begins behind all frames that were published there before that
-- entry. This is no further promise: of each connection that is told of it follows from `all_calls`
-- and `read_on`, by the law `segments_begin_behind_all`.
abbrev pub IsBegun : List (History RingCall) → ℕ → Segment → Type 0
IsBegun histories me segment =
    (before after : History RingCall)
    × (history_at histories segment.mount ≡ before ++ (me, Join segment.cursor.filter) ∷ after)
    × (segment.from ≡ length (published_in before))
