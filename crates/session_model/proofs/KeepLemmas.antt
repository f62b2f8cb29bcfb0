-- What is called keeps every segment sound, and publishes frames alone.
use Rattle.std.proofs.Common.{◌≡◌, ◌∙◌, ◌⊎◌, ◌++◌, ℕ, zero, suc, IsTrue, List, [], ◌∷◌, fold, set, All, refl, sym, ap, subst, inl, inr, append_assoc}
use Rattle.std.proofs.lemmas.List.{append-nil}
use Rattle.std.proofs.lemmas.List.Elements.{All-head, All-tail, All-cons, All-nil, All-append}
use Rattle.rtcm_frame.specs.Transport.{is_frame}
use Rattle.turn_log.specs.History.{History}
use Rattle.mount_ring.specs.declared.call.RingCall.{RingCall}
use Rattle.mount_ring.specs.declared.call.RingCall.TheVariants.{Claim, Release, Publish, Join, Look, Read}
use Rattle.mount_ring.specs.Places.{frames_of}
use Rattle.mount_ring.specs.Reads.{read_report}
use Rattle.mount_ring.specs.History.{state_of, permits_at, joined}
use Rattle.mount_ring.proofs.HistoryLemmas.{published-append}
use Rattle.rover_cursor.specs.declared.segment.Segment.{Segment}
use Rattle.rover_cursor.specs.Segments.{begun, read_on}
use Rattle.rover_cursor.specs.Sound.{IsSound}
use Rattle.rover_cursor.specs.Told.{published_in}
use Rattle.rover_cursor.proofs.SoundLemmas.{IsSound-append, IsSound-begun, IsSound-read}
use Rattle.session_calls.specs.Steps.{Ask, to_ring, to_book, Step, ask_of, answer_of}
use Rattle.session_calls.specs.Plans.{Plan, done, asks}
use Rattle.session_calls.specs.Rings.{history_at, shape_at}
use Rattle.rover_session.specs.Owed.{reads}
use Rattle.rover_session.specs.Made.{after_step, segments_after}
use Rattle.cast_config.specs.declared.config.Config.{Config}
use Rattle.session_model.specs.Setting.{shapes}
use Rattle.session_model.specs.Run.{Histories, with_call, with_calls, step_at, made}
use Rattle.session_model.specs.Promises.{permits_of, IsSoundIn}
use Rattle.session_model.proofs.GoodLemmas.{IsGoodCall, IsGoodAsk, IsGood}
use Rattle.session_model.proofs.QuietLemmas.{claim_quiet}

-- ---- the histories go on

-- what was published is there still, before what is published since
abbrev pub Later : List (History RingCall) → List (History RingCall) → Type 0
Later old now =
    (mount : ℕ) → (more : List (List ℕ))
    × (published_in (history_at now mount) ≡ published_in (history_at old mount) ++ more)

pub later_same : (h : List (History RingCall)) → Later h h
later_same h mount = ([], sym (append-nil (published_in (history_at h mount))))

pub later_both : (a b c : List (History RingCall)) → Later a b → Later b c → Later a c
later_both a b c first second mount =
    let one = first mount in let two = second mount in
    (one.0 ++ two.0, two.1 ∙ ap (λ (l : List (List ℕ)). l ++ two.0) one.1 ∙ append_assoc _ one.0 two.0)

-- a segment that is sound stays so
pub sound_later : (c : Config) (old now : List (History RingCall)) (segment : Segment) → Later old now
    → IsSoundIn c old segment → IsSoundIn c now segment
sound_later c old now segment later sound =
    let more = later segment.mount in
    subst (λ (frames : List (List ℕ)). IsSound (permits_at (shape_at (shapes c) segment.mount) segment.cursor.filter)
    (shape_at (shapes c) segment.mount).capacity frames segment) (sym more.1)
    (IsSound-append _ _ (published_in (history_at old segment.mount)) more.0 segment sound)

abbrev pub AllSound : Config → List (History RingCall) → List Segment → Type 0
AllSound c h segments = All (IsSoundIn c h) segments

pub all_later : (c : Config) (old now : List (History RingCall)) (segments : List Segment) → Later old now
    → AllSound c old segments → AllSound c now segments
all_later c old now [] later all = All-nil (IsSoundIn c now)
all_later c old now (segment ∷ older) later all =
    All-cons (IsSoundIn c now) segment older
    (sound_later c old now segment later (All-head (IsSoundIn c old) segment older all))
    (all_later c old now older later (All-tail (IsSoundIn c old) segment older all))

-- ---- one call

abbrev IsOne : List ℕ → Type 0
IsOne frame = IsTrue (is_frame frame)

-- at each mountpoint frames alone were published
abbrev pub AreFrames : List (History RingCall) → Type 0
AreFrames h = (mount : ℕ) → All IsOne (published_in (history_at h mount))

published_more : (h : History RingCall) (me : ℕ) (call : RingCall)
    → published_in (h ++ (me, call) ∷ []) ≡ published_in h ++ frames_of call
published_more h me call =
    published-append h ((me, call) ∷ [])
    ∙ ap (λ (more : List (List ℕ)). published_in h ++ more) (append-nil (frames_of call))

-- one history of several changes
set_at : (h : List (History RingCall)) (mount at : ℕ) (new : History RingCall)
    → (history_at (set h mount new) at ≡ history_at h at) ⊎ ((history_at (set h mount new) at ≡ new) × (at ≡ mount))
set_at [] mount at new = inl refl
set_at (first ∷ h) zero zero new = inr (refl, refl)
set_at (first ∷ h) zero (suc at) new = inl refl
set_at (first ∷ h) (suc mount) zero new = inl refl
set_at (first ∷ h) (suc mount) (suc at) new = elim (set_at h mount at new) [
  | inl same ↦ inl same
  | inr (changed, here) ↦ inr (changed, ap suc here)
]

abbrev with_ring : List (History RingCall) → ℕ → ℕ → RingCall → List (History RingCall)
with_ring h mount me call = set h mount (history_at h mount ++ (me, call) ∷ [])

ring_later : (h : List (History RingCall)) (mount me : ℕ) (call : RingCall) → Later h (with_ring h mount me call)
ring_later h mount me call at = elim (set_at h mount at (history_at h mount ++ (me, call) ∷ [])) [
  | inl same ↦ ([], ap published_in same ∙ sym (append-nil (published_in (history_at h at))))
  | inr (changed, here) ↦ (
    frames_of call,
    ap published_in changed ∙ published_more (history_at h mount) me call
        ∙ ap (λ (n : ℕ). published_in (history_at h n) ++ frames_of call) (sym here),
  )
]

good_frames : (call : RingCall) → IsGoodCall call ⊎ (frames_of call ≡ []) → All IsOne (frames_of call)
good_frames Claim good = All-nil IsOne
good_frames (Release claim) good = All-nil IsOne
good_frames (Publish claim frame) (inl good) = All-cons IsOne frame [] good (All-nil IsOne)
good_frames (Publish claim frame) (inr none) = absurd cc
good_frames (Join filter) good = All-nil IsOne
good_frames Look good = All-nil IsOne
good_frames (Read cursor budget) good = All-nil IsOne

ring_frames : (h : List (History RingCall)) (mount me : ℕ) (call : RingCall)
    → IsGoodCall call ⊎ (frames_of call ≡ []) → AreFrames h → AreFrames (with_ring h mount me call)
ring_frames h mount me call good frames at =
    elim (set_at h mount at (history_at h mount ++ (me, call) ∷ [])) [
      | inl same ↦ subst (λ (one : History RingCall). All IsOne (published_in one)) (sym same) (frames at)
      | inr (changed, here) ↦
          subst (λ (one : History RingCall). All IsOne (published_in one)) (sym changed)
          (subst (λ (list : List (List ℕ)). All IsOne list) (sym (published_more (history_at h mount) me call))
          (All-append IsOne (published_in (history_at h mount)) (frames_of call) (frames mount)
          (good_frames call good)))
    ]

-- ---- what it makes of the segments

-- at one mountpoint of this shape and history
abbrev after_ring : Config → Histories → ℕ → List Segment → ℕ → RingCall → List Segment
after_ring c h me segments mount call = after_step segments (step_at c me h (to_ring mount call))

ring_sound : (c : Config) (h : Histories) (me : ℕ) (segments : List Segment) (mount : ℕ) (call : RingCall)
    → IsGoodCall call
    → AllSound c h.rings segments → AllSound c h.rings (after_ring c h me segments mount call)
ring_sound c h me segments mount Claim good all =
    subst (AllSound c h.rings)
    (sym (claim_quiet (state_of (history_at h.rings mount)) (state_of (history_at h.rings mount)).holder mount
    segments)) all
ring_sound c h me segments mount (Release claim) good all = all
ring_sound c h me segments mount (Publish claim frame) good all = all
ring_sound c h me segments mount (Join filter) good all =
    let cursor = joined (shape_at (shapes c) mount) (state_of (history_at h.rings mount)) filter in
    All-cons (IsSoundIn c h.rings) (begun mount cursor) segments
    (IsSound-begun _ _ (published_in (history_at h.rings mount)) mount cursor refl refl) all
ring_sound c h me segments mount Look good all = all
ring_sound c h me segments mount (Read cursor budget) good all = absurd good

-- ---- a plan

-- what stands behind a plan that was made
pub record Kept (c : Config) (old now : Histories) (segments : List Segment) : Type 0 where
  pub later : Later old.rings now.rings
  pub frames : AreFrames now.rings
  pub sound : AllSound c now.rings segments

ask_later : (me : ℕ) (h : Histories) (ask : Ask) → Later h.rings (with_call me h ask).rings
ask_later me h (to_ring mount call) = ring_later h.rings mount me call
ask_later me h (to_book call) = later_same h.rings

ask_frames : (me : ℕ) (h : Histories) (ask : Ask) → IsGoodAsk ask → AreFrames h.rings
    → AreFrames (with_call me h ask).rings
ask_frames me h (to_ring mount call) good frames = ring_frames h.rings mount me call (inl good) frames
ask_frames me h (to_book call) good frames = frames

ask_sound : (c : Config) (h : Histories) (me : ℕ) (segments : List Segment) (ask : Ask) → IsGoodAsk ask
    → AllSound c h.rings segments → AllSound c h.rings (after_step segments (step_at c me h ask))
ask_sound c h me segments (to_ring mount call) good all = ring_sound c h me segments mount call good all
ask_sound c h me segments (to_book call) good all = all

-- a step asks what was asked
pub asked_same : (c : Config) (me : ℕ) (h : Histories) (ask : Ask) → ask_of (step_at c me h ask) ≡ ask
asked_same c me h (to_ring mount call) = refl
asked_same c me h (to_book call) = refl

pub plan_keeps : (c : Config) (me : ℕ) (h : Histories) (segments : List Segment) (plan : Plan) → IsGood plan
    → AreFrames h.rings → AllSound c h.rings segments
    → Kept c h (with_calls me h (made c me h plan)) (segments_after segments (made c me h plan))
plan_keeps c me h segments done good frames all =
    record { later = later_same h.rings; frames = frames; sound = all }
plan_keeps c me h segments (asks ask next) good frames all =
    let step = step_at c me h ask in
    let now = with_call me h ask in
    let rest = plan_keeps c me now (after_step segments step) (next (answer_of step)) (good.1 (answer_of step))
    (ask_frames me h ask good.0 frames)
    (all_later c h.rings now.rings (after_step segments step) (ask_later me h ask)
    (ask_sound c h me segments ask good.0 all)) in
    let all_steps = made c me now (next (answer_of step)) in
    subst (λ (first : Ask). Kept c h (fold (λ h (s : Step). with_call me h (ask_of s)) (with_call me h first) all_steps)
    (segments_after (after_step segments step) all_steps)) (sym (asked_same c me h ask))
    (record {
      later = later_both h.rings now.rings _ (ask_later me h ask) rest.later;
      frames = rest.frames;
      sound =
          rest.sound;
    })

-- ---- a turn

pub turn_keeps : (c : Config) (me : ℕ) (h : Histories) (segments : List Segment) (budget : ℕ)
    → AreFrames h.rings → AllSound c h.rings segments
    → Kept c h (with_calls me h (made c me h (reads budget segments))) (segments_after segments (made c me h
    (reads budget segments)))
turn_keeps c me h [] budget frames all = record { later = later_same h.rings; frames = frames; sound = all }
turn_keeps c me h (segment ∷ older) budget frames all =
    let call : RingCall = Read segment.cursor budget in
    let frames_there = published_in (history_at h.rings segment.mount) in
    let read : Segment =
    read_on (read_report (permits_of c segment) (shape_at (shapes c) segment.mount).capacity frames_there
    segment.cursor budget) segment in
    let later = ring_later h.rings segment.mount me call in
    record {
      later = later;
      frames = ring_frames h.rings segment.mount me call (inr refl) frames;
      sound = all_later c h.rings (with_ring h.rings segment.mount me call) (read ∷ older) later
          (All-cons (IsSoundIn c h.rings) read older
          (IsSound-read (permits_of c segment) (shape_at (shapes c) segment.mount).capacity frames_there segment budget
          (All-head (IsSoundIn c h.rings) segment older all))
          (All-tail (IsSoundIn c h.rings) segment older all));
    }
