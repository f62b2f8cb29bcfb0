-- The segments of a connection are sound, however its mountpoints go on.
use Rattle.std.proofs.Common.{◌≡◌, ◌∙◌, ◌++◌, ℕ, false, List, [], ◌∷◌, refl, sym, ap, subst, inl, inr, All}
use Rattle.std.specs.Prelude.{reverse}
use Rattle.std.proofs.lemmas.List.{reverse-append}
use Rattle.std.proofs.lemmas.List.Elements.{All-nil, All-cons, All-head, All-tail, All-append}
use Rattle.turn_log.specs.History.{History}
use Rattle.mount_ring.specs.declared.call.RingCall.{RingCall}
use Rattle.mount_ring.specs.declared.shape.RingShape.{RingShape}
use Rattle.mount_ring.specs.History.{permits_at}
use Rattle.mount_ring.proofs.HistoryLemmas.{published-append, published_by}
use Rattle.rover_cursor.specs.declared.segment.Segment.{Segment}
use Rattle.rover_cursor.specs.Sound.{kept}
use Rattle.rover_cursor.specs.Told.{published_in}
use Rattle.rover_cursor.proofs.SoundLemmas.{kept-append}
use Rattle.session_calls.specs.Steps.{Step}
use Rattle.session_calls.specs.Rings.{Went, history_at, shape_at}
use Rattle.rover_session.specs.Made.{segments_after}
use Rattle.rover_session.specs.Body.{body_of}
use Rattle.rover_session.specs.Standing.{IsResumable, IsSoundAt}
use Rattle.cast_config.specs.declared.config.Config.{Config}
use Rattle.session_core.specs.declared.session.Session.{Session}
use Rattle.session_core.specs.declared.session_stage.SessionStage.{SessionStage}
use Rattle.session_core.specs.declared.session_stage.SessionStage.TheVariants as stages
use Rattle.session_model.specs.Judged.{Opening, Judged}
use Rattle.session_model.specs.Owed.{came_to}
use Rattle.session_model.specs.Replies.{opening_text, reply_of, version_of, kept_of, kept_frames, sent_by}
use Rattle.session_model.specs.Setting.{shapes}
use Rattle.session_model.specs.Run.{Histories}
use Rattle.session_model.specs.Called.{Called}
use Rattle.session_core.specs.Standing.{StandsFor, IsAtStage}
use Rattle.session_model.specs.Promises.{IsSoundIn}
use Rattle.session_model.proofs.KeepLemmas.{Later, AllSound, all_later}

-- ---- by what the session stands for

sound_each : (c : Config) (h : List (History RingCall)) (segments : List Segment)
    → All (IsSoundAt (shapes c) h) segments → AllSound c h segments
sound_each c h segments all = λ k d within. (all k d within).sound

resumable_sound : (c : Config) (me : ℕ) (h : List (History RingCall)) (segments : List Segment)
    → IsResumable (shapes c) me h segments → AllSound c h segments
resumable_sound c me h [] resumable = All-nil (IsSoundIn c h)
resumable_sound c me h (segment ∷ older) resumable =
    All-cons (IsSoundIn c h) segment older resumable.1.sound (sound_each c h older resumable.2)

no_segment_sound : (c : Config) (h : List (History RingCall)) (segments : List Segment) → segments ≡ []
    → AllSound c h segments
no_segment_sound c h segments none = subst (AllSound c h) (sym none) (All-nil (IsSoundIn c h))

stage_sound : (c : Config) (me : ℕ) (h : Histories) (opening : Opening) (j : Judged) (text : List ℕ)
    (steps : List Step) (stage : SessionStage) → IsAtStage c me h opening j text steps stage
    → AllSound c h.rings (segments_after [] steps)
stage_sound c me h opening j text steps (stages.Head head) at =
    no_segment_sound c h.rings (segments_after [] steps) (ap (segments_after []) at.2)
stage_sound c me h opening j text steps stages.Over at =
    no_segment_sound c h.rings (segments_after [] steps) at.segments
stage_sound c me h opening j text steps (stages.Source mount session) at =
    no_segment_sound c h.rings (segments_after [] steps) at.segments
stage_sound c me h opening j text steps (stages.Relay mount session) at =
    no_segment_sound c h.rings (segments_after [] steps) at.segments
stage_sound c me h opening j text steps (stages.Rover account session) at =
    subst (AllSound c h.rings)
    (at.stands.segments ∙ sym (ap (segments_after []) at.steps_are))
    (resumable_sound c me h.rings session.segments at.resumes)

pub stands_sound : (c : Config) (session : Session) (opening : Opening) (text : List ℕ) (steps : List Step)
    (h : Histories) (sent : List ℕ) → StandsFor c session opening text steps h sent
    → AllSound c h.rings (segments_after [] steps)
stands_sound c session opening text steps h sent (inl stands) =
    stage_sound c session.me h opening _ text steps session.stage stands.stage
stands_sound c session opening text steps h sent (inr lost) =
    no_segment_sound c h.rings (segments_after [] steps) (ap (segments_after []) lost.uncalled)

-- ---- while the histories go on

went_later : (given : List RingShape) (old now : List (History RingCall)) (me : ℕ) (steps : List Step)
    → Went given false old now me steps → Later old now
went_later given old now me steps went = λ mount.
    let heard = went.rings mount in
    (published_by heard.more, ap published_in heard.seen ∙ published-append (history_at old mount) heard.more)

-- all of them, in the other order
all_reverse : {X : Type 0} (P : X → Type 0) (xs : List X) → All P xs → All P (reverse xs)
all_reverse P [] all = all
all_reverse P (x ∷ xs) all =
    subst (All P) (sym (reverse-append (x ∷ []) xs))
    (All-append P (reverse xs) (x ∷ []) (all_reverse P xs (All-tail P x xs all))
    (All-cons P x [] (All-head P x xs all) (All-nil P)))

sound_back : (c : Config) (h : List (History RingCall)) (segments : List Segment) → AllSound c h segments
    → AllSound c h (reverse segments)
sound_back c h segments all = all_reverse (IsSoundIn c h) segments all

pub sound_closed : (c : Config) (between now : Histories) (me : ℕ) (steps more : List Step)
    → AllSound c between.rings (segments_after [] steps) → Called c false between now me more
    → AllSound c now.rings (reverse (segments_after [] steps))
sound_closed c between now me steps more all called =
    sound_back c now.rings (segments_after [] steps)
    (all_later c between.rings now.rings (segments_after [] steps)
    (went_later (shapes c) between.rings now.rings me more called.rings) all)

-- ---- what they were sent

-- no frame that is published later changes what a sound segment was sent
kept_later : (c : Config) (old now : List (History RingCall)) (segment : Segment) → Later old now
    → IsSoundIn c old segment → kept_of c now segment ≡ kept_of c old segment
kept_later c old now segment later sound =
    let more = later segment.mount in
    ap (λ (frames : List (List ℕ)). kept (permits_at (shape_at (shapes c) segment.mount) segment.cursor.filter) frames
    segment) more.1
    ∙ kept-append (permits_at (shape_at (shapes c) segment.mount) segment.cursor.filter)
    (shape_at (shapes c) segment.mount).capacity (published_in (history_at old segment.mount)) more.0 segment sound

frames_later : (c : Config) (old now : List (History RingCall)) (segments : List Segment) → Later old now
    → AllSound c old segments → kept_frames c now segments ≡ kept_frames c old segments
frames_later c old now [] later all = refl
frames_later c old now (segment ∷ more) later all =
    ap (λ (frames : List (List ℕ)). frames ++ kept_frames c now more)
    (kept_later c old now segment later (All-head (IsSoundIn c old) segment more all))
    ∙ ap (λ (frames : List (List ℕ)). kept_of c old segment ++ frames)
    (frames_later c old now more later (All-tail (IsSoundIn c old) segment more all))

-- so what is sent of a connection is the same by the histories that its closing left
pub sent_later : (c : Config) (between now : Histories) (me : ℕ) (opening : Opening) (j : Judged)
    (steps more : List Step) → AllSound c between.rings (segments_after [] steps) → Called c false between now me more
    → sent_by c between.rings opening (came_to j steps) (reverse (segments_after [] steps))
    ≡ sent_by c now.rings opening (came_to j steps) (reverse (segments_after [] steps))
sent_later c between now me opening j steps more all called =
    ap (λ (frames : List (List ℕ)). opening_text c opening ++ reply_of c (came_to j steps)
    ++ body_of (version_of (came_to j steps)) frames)
    (sym (frames_later c between.rings now.rings (reverse (segments_after [] steps))
    (went_later (shapes c) between.rings now.rings me more called.rings)
    (sound_back c between.rings (segments_after [] steps) all)))
