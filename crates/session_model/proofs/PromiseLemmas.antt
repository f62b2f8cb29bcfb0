-- Every connection of a run keeps what the report promises of it.
use Rattle.std.proofs.Common.{◌∙◌, ℕ, ◌-◌, Bool, true, false, cond, List, [], ◌∷◌, reverse, drop, All, IsTrue, ap}
use Rattle.std.specs.List.{filter}
use Rattle.std.proofs.lemmas.List.Elements.{All-append, All-drop, All-take, All-cons, All-nil, All-head, All-tail}
use Rattle.rtcm_frame.specs.Transport.{is_frame}
use Rattle.rtcm_frame.specs.Cut.{cut}
use Rattle.rtcm_frame.proofs.CutLemmas.{cut-frames-joined}
use Rattle.chunk_body.proofs.ChunkLemmas.{frames_open, frames_plain}
use Rattle.turn_log.specs.History.{History}
use Rattle.mount_ring.specs.declared.call.RingCall.{RingCall}
use Rattle.mount_ring.specs.declared.cursor.Lap.{Lap}
use Rattle.rover_cursor.specs.declared.segment.Segment.{Segment}
use Rattle.rover_cursor.specs.Sound.{between, outside}
use Rattle.rover_cursor.proofs.SoundLemmas.{sound_counts}
use Rattle.session_calls.specs.Rings.{shape_at}
use Rattle.rover_session.specs.Made.{segments_after}
use Rattle.rover_session.proofs.LawLemmas.{body_plain}
use Rattle.session_script.specs.declared.Event.{Event}
use Rattle.cast_config.specs.declared.config.Config.{Config}
use Rattle.session_model.specs.Setting.{shapes}
use Rattle.session_model.specs.Headings.{Heading}
use Rattle.session_model.specs.Replies.{kept_of, kept_frames}
use Rattle.session_model.specs.Run.{Connected, World, world}
use Rattle.session_model.specs.Promises.{permits_of, published_at, IsSoundIn, CountsAll, sent_frames, Keeps, KeepsAll}
use Rattle.session_model.proofs.KeepLemmas.{AllSound, AreFrames}
use Rattle.session_model.proofs.WellLemmas.{world_well}

-- ---- what was sent are frames

abbrev IsOne : List ℕ → Type 0
IsOne frame = IsTrue (is_frame frame)

between_frames : (from to : ℕ) (published : List (List ℕ)) → All IsOne published → All IsOne (between from to published)
between_frames from to published all = All-take IsOne (to - from) (drop from published)
    (All-drop IsOne from published all)

pub outside_frames : (from : ℕ) (laps : List Lap) (to : ℕ) (published : List (List ℕ)) → All IsOne published
    → All IsOne (outside from laps to published)
outside_frames from [] to published all = between_frames from to published all
outside_frames from (lap ∷ laps) to published all =
    All-append IsOne (between from lap.from published) (outside lap.to laps to published)
    (between_frames from lap.from published all) (outside_frames lap.to laps to published all)

pub filter_frames : (permits : List ℕ → Bool) (frames : List (List ℕ)) → All IsOne frames
    → All IsOne (filter permits frames)
filter_frames permits [] all = all
filter_frames permits (frame ∷ frames) all =
    let rest = filter_frames permits frames (All-tail IsOne frame frames all) in
    elim (permits frame) as (λ b. All IsOne (cond b (frame ∷ filter permits frames) (filter permits frames))) [
      | true ↦ All-cons IsOne frame (filter permits frames) (All-head IsOne frame frames all) rest
      | false ↦ rest
    ]

kept_are_frames : (c : Config) (h : List (History RingCall)) (segments : List Segment) → AreFrames h
    → All IsOne (kept_frames c h segments)
kept_are_frames c h [] all = All-nil IsOne
kept_are_frames c h (segment ∷ more) all =
    All-append IsOne (kept_of c h segment) (kept_frames c h more)
    (filter_frames (permits_of c segment) (outside segment.from segment.laps segment.to (published_at h segment))
    (outside_frames segment.from segment.laps segment.to (published_at h segment) (all segment.mount)))
    (kept_are_frames c h more all)

-- ---- all frames are counted

pub all_count : (c : Config) (h : List (History RingCall)) (segments : List Segment) → AllSound c h segments
    → All (CountsAll c h) segments
all_count c h [] all = All-nil (CountsAll c h)
all_count c h (segment ∷ more) all =
    All-cons (CountsAll c h) segment more
    (sound_counts (permits_of c segment) (shape_at (shapes c) segment.mount).capacity (published_at h segment) segment
    (All-head (IsSoundIn c h) segment more all))
    (all_count c h more (All-tail (IsSoundIn c h) segment more all))

-- ---- one connection, and all

keeps : (c : Config) (h : List (History RingCall)) (d : Connected) → AreFrames h
    → AllSound c h (segments_after [] d.steps) → Keeps c h d
keeps c h d frames sound =
    let sent : All IsOne (sent_frames c h d) = kept_are_frames c h (reverse (segments_after [] d.steps)) frames in
    record {
      sound = sound;
      counts = all_count c h (segments_after [] d.steps) sound;
      plain = ap cut (body_plain (sent_frames c h d)) ∙ cut-frames-joined (sent_frames c h d) sent;
      chunked = frames_open (sent_frames c h d) sent;
      data_is = frames_plain (sent_frames c h d) sent;
    }

each_keeps : (c : Config) (h : List (History RingCall)) (ds : List Connected) → AreFrames h
    → All (λ (d : Connected). AllSound c h (segments_after [] d.steps)) ds → All (Keeps c h) ds
each_keeps c h [] frames all = All-nil (Keeps c h)
each_keeps c h (d ∷ ds) frames all =
    All-cons (Keeps c h) d ds
    (keeps c h d frames (All-head (λ (e : Connected). AllSound c h (segments_after [] e.steps)) d ds all))
    (each_keeps c h ds frames (All-tail (λ (e : Connected). AllSound c h (segments_after [] e.steps)) d ds all))

pub keeps_all : (c : Config) (headings : ℕ → Heading) (list : List Event) → KeepsAll c headings list
keeps_all c headings list =
    let w : World = world c headings list in
    let well = world_well c headings list in
    each_keeps c w.histories.rings w.connections well.frames well.sound
