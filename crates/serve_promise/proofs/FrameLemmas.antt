-- What the segments of a link were sent, by histories that went on: frames, each counted.
use Rattle.std.proofs.Common.{◌∙◌, ℕ, IsTrue, List, [], ◌∷◌, reverse, All, ap}
use Rattle.std.proofs.lemmas.List.Elements.{All-append, All-nil}
use Rattle.rtcm_frame.specs.Transport.{is_frame}
use Rattle.rtcm_frame.specs.Cut.{cut}
use Rattle.rtcm_frame.proofs.CutLemmas.{cut-frames-joined}
use Rattle.chunk_body.proofs.ChunkLemmas.{frames_open, frames_plain}
use Rattle.turn_log.specs.History.{History}
use Rattle.mount_ring.specs.declared.call.RingCall.{RingCall}
use Rattle.mount_ring.proofs.HistoryLemmas.{published-append, published_by}
use Rattle.rover_cursor.specs.declared.segment.Segment.{Segment}
use Rattle.rover_cursor.specs.Sound.{outside}
use Rattle.rover_cursor.specs.Told.{published_in}
use Rattle.session_calls.specs.Rings.{history_at}
use Rattle.rover_session.specs.Made.{segments_after}
use Rattle.rover_session.proofs.LawLemmas.{body_plain}
use Rattle.cast_config.specs.declared.config.Config.{Config}
use Rattle.session_model.specs.Replies.{kept_of, kept_frames}
use Rattle.session_model.specs.Run.{Connected}
use Rattle.session_model.specs.Promises.{permits_of, published_at, sent_frames, Keeps}
use Rattle.session_model.proofs.KeepLemmas.{Later, AllSound}
use Rattle.serve_promise.specs.Links.{AllFrames, GoOnTo}
use Rattle.session_model.proofs.PromiseLemmas.{outside_frames, filter_frames, all_count}

-- ---- what was sent are frames

abbrev IsOne : List ℕ → Type 0
IsOne frame = IsTrue (is_frame frame)

kept_are_frames : (c : Config) (h : List (History RingCall)) (segments : List Segment) → AllFrames h
    → All IsOne (kept_frames c h segments)
kept_are_frames c h [] all = All-nil IsOne
kept_are_frames c h (segment ∷ more) all =
    All-append IsOne (kept_of c h segment) (kept_frames c h more)
    (filter_frames (permits_of c segment) (outside segment.from segment.laps segment.to (published_at h segment))
    (outside_frames segment.from segment.laps segment.to (published_at h segment) (all segment.mount)))
    (kept_are_frames c h more all)

pub keeps_so : (c : Config) (h : List (History RingCall)) (d : Connected) → AllFrames h
    → AllSound c h (segments_after [] d.steps) → Keeps c h d
keeps_so c h d frames sound =
    let sent : All IsOne (sent_frames c h d) = kept_are_frames c h (reverse (segments_after [] d.steps)) frames in
    record {
      sound = sound;
      counts = all_count c h (segments_after [] d.steps) sound;
      plain = ap cut (body_plain (sent_frames c h d)) ∙ cut-frames-joined (sent_frames c h d) sent;
      chunked = frames_open (sent_frames c h d) sent;
      data_is = frames_plain (sent_frames c h d) sent;
    }

-- ---- while the histories go on

pub later_so : (now histories : List (History RingCall)) → GoOnTo now histories → Later now histories
later_so now histories goes mount =
    let on = goes mount in
    (published_by on.0, ap published_in on.1 ∙ published-append (history_at now mount) on.0)
