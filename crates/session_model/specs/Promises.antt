-- What the report of every list of events promises of its segments and bodies.
use Rattle.std.specs.Prelude.{◌≡◌, ℕ, ◌+◌, Bool, List, [], reverse}
use Rattle.std.specs.List.{All, count_by, concat}
use Rattle.rtcm_frame.specs.Cut.{cut}
use Rattle.chunk_body.specs.Text.{IsOpen, IsPlain}
use Rattle.turn_log.specs.History.{History}
use Rattle.mount_ring.specs.declared.call.RingCall.{RingCall}
use Rattle.mount_ring.specs.History.{permits_at}
use Rattle.rover_cursor.specs.declared.segment.Segment.{Segment}
use Rattle.rover_cursor.specs.Sound.{IsSound, between}
use Rattle.rover_cursor.specs.Told.{published_in}
use Rattle.session_calls.specs.Rings.{history_at, shape_at}
use Rattle.ntrip_head.specs.declared.request.Version.TheVariants.{One, Two}
use Rattle.rover_session.specs.Body.{body_of}
use Rattle.rover_session.specs.Made.{segments_after}
use Rattle.session_script.specs.declared.Event.{Event}
use Rattle.cast_config.specs.declared.config.Config.{Config}
use Rattle.session_model.specs.Setting.{shapes}
use Rattle.session_model.specs.Headings.{Heading}
use Rattle.session_model.specs.Replies.{kept_frames}
use Rattle.session_model.specs.Run.{Connected, world}

-- the test of a segment's filter at its mountpoint
abbrev pub permits_of : Config → Segment → List ℕ → Bool
permits_of c segment = permits_at (shape_at (shapes c) segment.mount) segment.cursor.filter

-- the frames that were published there
abbrev pub published_at : List (History RingCall) → Segment → List (List ℕ)
published_at histories segment = published_in (history_at histories segment.mount)

-- a segment is sound over these frames
abbrev pub IsSoundIn : Config → List (History RingCall) → Segment → Type 0
IsSoundIn c histories segment =
    IsSound (permits_of c segment) (shape_at (shapes c) segment.mount).capacity
    (published_at histories segment) segment

-- the frames that it was sent and those that it counts as overrun are together the permitted
-- frames that were published from where it began to where its last read ended
abbrev pub CountsAll : Config → List (History RingCall) → Segment → Type 0
CountsAll c histories segment =
    segment.sent + segment.overrun
    ≡ count_by (permits_of c segment)
    (between segment.from segment.to (published_at histories segment))

-- the frames that a connection was sent, in order
abbrev pub sent_frames : Config → List (History RingCall) → Connected → List (List ℕ)
sent_frames c histories d = kept_frames c histories (reverse (segments_after [] d.steps))

-- what is promised of a connection of a run
pub record Keeps (c : Config) (histories : List (History RingCall)) (d : Connected) : Type 0 where
  pub sound : All (IsSoundIn c histories) (segments_after [] d.steps)
  pub counts : All (CountsAll c histories) (segments_after [] d.steps)
  -- under NTRIP 1.0 its body is cut into exactly these frames, with no junk and no rest
  pub plain : cut (body_of One (sent_frames c histories d))
      ≡ record { frames = sent_frames c histories d; junk = 0; rest = [] }
  -- under NTRIP 2.0 it is a chunked text that goes on and whose data is these frames
  pub chunked : IsOpen (body_of Two (sent_frames c histories d))
  pub data_is : IsPlain (body_of Two (sent_frames c histories d)) (concat
      (sent_frames c histories d))

-- and of every connection of the run of these events
abbrev pub KeepsAll : Config → (ℕ → Heading) → List Event → Type 0
KeepsAll c headings events =
    All (Keeps c (world c headings events).histories.rings) (world c headings events).connections
