-- What a rover was sent with its greetings are frames.
use Rattle.std.proofs.Common.{◌∙◌, ◌++◌, ℕ, Bool, true, false, cond, List, [], ◌∷◌, take, reverse, All, IsTrue, Some, inl, inr, sym, ap, subst, option_to_list}
use Rattle.std.specs.Prelude.{find}
use Rattle.std.specs.List.{flat_map}
use Rattle.std.proofs.lemmas.List.Elements.{All-append, All-take, All-cons, All-nil, All-head, All-tail}
use Rattle.std.proofs.lemmas.List.Sorted.{All-permutation, IsPermutation-reverse}
use Rattle.rtcm_frame.specs.Transport.{is_frame}
use Rattle.rtcm_frame.specs.Cut.{cut}
use Rattle.rtcm_frame.proofs.CutLemmas.{cut-frames-joined}
use Rattle.chunk_body.proofs.ChunkLemmas.{frames_open, frames_plain}
use Rattle.turn_log.specs.History.{History}
use Rattle.mount_ring.specs.declared.call.RingCall.{RingCall}
use Rattle.last_frames.specs.Last.{station_numbers, has_number, last_of, if_permitted}
use Rattle.rover_cursor.specs.declared.segment.Segment.{Segment}
use Rattle.rover_cursor.specs.Sound.{outside}
use Rattle.ntrip_head.specs.declared.request.Version.{Version}
use Rattle.rover_session.specs.Body.{body_of}
use Rattle.rover_session.proofs.LawLemmas.{body_plain}
use Rattle.cast_config.specs.declared.config.Config.{Config}
use Rattle.session_model.specs.Replies.{kept_of, kept_frames}
use Rattle.session_model.specs.Promises.{permits_of, published_at}
use Rattle.session_model.proofs.KeepLemmas.{AreFrames}
use Rattle.run_promise.specs.Promised.{Holds}
use Rattle.run_promise.proofs.AccountLemmas.{holds_so}
use Rattle.warm_promise.specs.Greeted.{IsGreeting}
use Rattle.warm_promise.proofs.BackLemmas.{AreBack}
use Rattle.warm_promise.proofs.SentLemmas.{AreSentBack}
use Rattle.session_model.proofs.PromiseLemmas.{outside_frames, filter_frames}

abbrev pub IsOne : List ℕ → Type 0
IsOne frame = IsTrue (is_frame frame)

-- ---- the greeting

found_frames : (p : List ℕ → Bool) (frames : List (List ℕ)) → All IsOne frames
    → All IsOne (option_to_list (find p frames))
found_frames p [] all = All-nil IsOne
found_frames p (frame ∷ frames) all =
    elim (p frame) as (λ b. All IsOne (option_to_list (cond b (Some frame) (find p frames)))) [
      | true ↦ All-cons IsOne frame [] (All-head IsOne frame frames all) (All-nil IsOne)
      | false ↦ found_frames p frames (All-tail IsOne frame frames all)
    ]

greeting_frames : (permits : List ℕ → Bool) (frames : List (List ℕ)) (numbers : List ℕ) → All IsOne frames
    → All IsOne (flat_map (λ number. if_permitted permits (last_of number frames)) numbers)
greeting_frames permits frames [] all = All-nil IsOne
greeting_frames permits frames (number ∷ numbers) all =
    All-append IsOne (if_permitted permits (last_of number frames))
    (flat_map (λ number. if_permitted permits (last_of number frames)) numbers)
    (filter_frames permits (option_to_list (last_of number frames))
    (found_frames (has_number number) (reverse frames)
    (All-permutation IsOne frames (reverse frames) (IsPermutation-reverse frames) all)))
    (greeting_frames permits frames numbers all)

-- ---- what was kept

kept_one : (c : Config) (h : List (History RingCall)) (segment : Segment) → AreFrames h → All IsOne (kept_of c h segment)
kept_one c h segment all =
    filter_frames (permits_of c segment) (outside segment.from segment.laps segment.to (published_at h segment))
    (outside_frames segment.from segment.laps segment.to (published_at h segment) (all segment.mount))

kept_all : (c : Config) (h : List (History RingCall)) (segments : List Segment) → AreFrames h
    → All IsOne (kept_frames c h segments)
kept_all c h [] all = All-nil IsOne
kept_all c h (segment ∷ more) all =
    All-append IsOne (kept_of c h segment) (kept_frames c h more) (kept_one c h segment all) (kept_all c h more all)

-- ---- all of it

greets_one : (c : Config) (h : List (History RingCall)) (segment : Segment) (later : List Segment)
    (greeting : List (List ℕ)) → AreFrames h → IsGreeting c h segment later greeting → All IsOne greeting
greets_one c h segment later greeting all (inl is) =
    subst (All IsOne) (sym is)
    (greeting_frames (permits_of c segment) (take segment.from (published_at h segment)) station_numbers
    (All-take IsOne segment.from (published_at h segment) (all segment.mount)))
greets_one c h segment later greeting all (inr (none, unread, followed)) = subst (All IsOne) (sym none) (All-nil IsOne)

back_frames : (c : Config) (h : List (History RingCall)) (later segments : List Segment) (frames : List (List ℕ))
    → AreFrames h → AreBack c h later segments frames → All IsOne frames
back_frames c h later [] frames all none = subst (All IsOne) (sym none) (All-nil IsOne)
back_frames c h later (segment ∷ older) frames all (before, greeting, is, greets, back) =
    subst (All IsOne) (sym is)
    (All-append IsOne before (greeting ++ kept_of c h segment)
    (back_frames c h (segment ∷ later) older before all back)
    (All-append IsOne greeting (kept_of c h segment) (greets_one c h segment later greeting all greets)
    (kept_one c h segment all)))

pub sent_frames : (joins : Bool) (c : Config) (h : List (History RingCall)) (segments : List Segment)
    (frames : List (List ℕ)) → AreFrames h → AreSentBack joins c h segments frames → All IsOne frames
sent_frames true c h segments frames all back = back_frames c h [] segments frames all back
sent_frames false c h segments frames all is =
    subst (All IsOne) (sym is) (kept_all c h (reverse segments) all)

pub frames_held : (version : Version) (frames : List (List ℕ)) → All IsOne frames
    → Holds version (body_of version frames) frames
frames_held version frames all =
    holds_so version frames (ap cut (body_plain frames) ∙ cut-frames-joined frames all) (frames_open frames all)
    (frames_plain frames all)
