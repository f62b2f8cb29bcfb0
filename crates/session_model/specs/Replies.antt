-- What a connection is sent: its reply, and behind it, if it is a rover, the frames of its
-- segments.
use Rattle.std.specs.Prelude.{ℕ, List, [], ◌++◌, slice_get, Option, None, Some, unwrap_or}
use Rattle.std.specs.List.{flat_map}
use Rattle.turn_log.specs.History.{History}
use Rattle.mount_ring.specs.declared.call.RingCall.{RingCall}
use Rattle.mount_ring.specs.History.{permits_at}
use Rattle.rover_cursor.specs.declared.segment.Segment.{Segment}
use Rattle.rover_cursor.specs.Sound.{kept}
use Rattle.rover_cursor.specs.Told.{published_in}
use Rattle.ntrip_head.specs.declared.request.Version.{Version}
use Rattle.ntrip_head.specs.declared.request.Version.TheVariants.{One}
use Rattle.ntrip_reply.specs.declared.kind.Reply.{Reply}
use Rattle.ntrip_reply.specs.declared.kind.Reply.TheVariants as replies
use Rattle.ntrip_reply.specs.Text.{reply_text}
use Rattle.session_calls.specs.Rings.{history_at, shape_at}
use Rattle.upstream_relay.specs.Request.{relay_request}
use Rattle.rover_session.specs.Body.{body_of}
use Rattle.cast_config.specs.declared.config.Config.{Config}
use Rattle.cast_config.specs.declared.config.Relay.{Relay}
use Rattle.session_model.specs.Setting.{shapes}
use Rattle.session_model.specs.Setting as setting
use Rattle.session_model.specs.Judged.{Opening, relays, replied}
use Rattle.session_model.specs.Owed.{Came, nothing, over, holding, inside}

-- ---- the reply

-- nothing where no reply is made
abbrev pub replied_text : Option (Version × Reply) → List ℕ → List ℕ
replied_text None sourcetable = []
replied_text (Some (version, reply)) sourcetable = reply_text version reply sourcetable

abbrev pub text_if : Option Version → Reply → List ℕ → List ℕ
text_if version reply sourcetable = replied_text (replied version reply) sourcetable

abbrev pub reply_of : Config → Came → List ℕ
reply_of c nothing = []
reply_of c (over reply end) = replied_text reply (setting.table c)
reply_of c (holding terms body claim) = text_if terms.version replies.SourceOk []
reply_of c (inside terms) = text_if terms.version replies.RoverOk []

-- ---- the body

-- in which version it goes out: a bare rover is sent its frames as one of NTRIP 1.0 is
abbrev pub version_of : Came → Version
version_of (inside terms) = unwrap_or terms.version One
version_of _ = One

-- the frames that a segment kept of all that its mountpoint's history published
abbrev pub kept_of : Config → List (History RingCall) → Segment → List (List ℕ)
kept_of c histories segment =
    kept (permits_at (shape_at (shapes c) segment.mount) segment.cursor.filter)
    (published_in (history_at histories segment.mount)) segment

abbrev pub kept_frames : Config → List (History RingCall) → List Segment → List (List ℕ)
kept_frames c histories segments = flat_map (kept_of c histories) segments

-- ---- all of it

-- what a relay asks the other caster; nothing else is sent before a reply
abbrev pub request_if : Option Relay → List ℕ
request_if None = []
request_if (Some relay) = relay_request relay

abbrev pub opening_text : Config → Opening → List ℕ
opening_text c (relays n) = request_if (slice_get c.relay n)
opening_text c _ = []

abbrev pub sent_by : Config → List (History RingCall) → Opening → Came → List Segment → List ℕ
sent_by c histories opening came segments =
    opening_text c opening ++ reply_of c came
    ++ body_of (version_of came) (kept_frames c histories segments)
