-- Segments, while the histories that tell of them go on.
use Rattle.std.proofs.Common.{◌≡◌, ℕ, ◌<◌, Bool, true, false, List, [], ◌∷◌, ◌++◌, length, cond, refl, sym, ap, subst, ◌∙◌, append_assoc}
use Rattle.std.specs.Prelude.{◌==◌, Option}
use Rattle.std.specs.List.{list_all, All}
use Rattle.std.proofs.lemmas.List.Elements.{All-nil, All-cons, All-head, All-tail}
use Rattle.std.proofs.lemmas.List.{append-nil}
use Rattle.turn_log.specs.History.{History}
use Rattle.turn_log.specs.Heard.{calls_in}
use Rattle.turn_log.proofs.HeardLaws.{calls_told}
use Rattle.base_select.specs.declared.Base.{Base}
use Rattle.mount_ring.specs.declared.call.RingCall.{RingCall}
use Rattle.mount_ring.specs.declared.call.RingCall.TheVariants.{Look}
use Rattle.mount_ring.specs.declared.call.RingAnswer.TheVariants.{Looked}
use Rattle.mount_ring.specs.declared.shape.RingShape.{RingShape}
use Rattle.mount_ring.specs.History.{Shape, permits_at}
use Rattle.mount_ring.proofs.HistoryLemmas.{published-append}
use Rattle.mount_ring.specs.Places.{published_by}
use Rattle.rover_cursor.specs.declared.segment.Segment.{Segment}
use Rattle.mount_ring.specs.declared.cursor.Cursor.{Cursor}
use Rattle.rover_cursor.specs.Segments.{begun, read_on}
use Rattle.rover_cursor.specs.Sound.{IsSound, kept}
use Rattle.rover_cursor.specs.Told.{IsSegment, Resumes, is_quiet, published_in}
use Rattle.rover_cursor.proofs.SoundLemmas.{IsSound-append, kept-append, kept-begun, kept-read}
use Rattle.rover_cursor.proofs.ToldLemmas.{segment_stays, goes_resumes}
use Rattle.session_calls.specs.Steps.{Step, on_ring}
use Rattle.session_calls.specs.Rings.{history_at, shape_at, answer_at, Went}
use Rattle.rover_session.specs.Standing.{looked, IsSoundAt, IsResumable, WasResumable, frames_of, frames_sent, report_at, frames_at}

-- each history begins with what it was
abbrev pub Extends : List (History RingCall) → List (History RingCall) → Type 0
Extends old now =
    (mount : ℕ) → (more : History RingCall) × (history_at now mount ≡ history_at old mount ++ more)

pub went_extends : (shapes : List RingShape) (alone : Bool) (old now : List (History RingCall)) (me : ℕ)
    (steps : List Step) → Went shapes alone old now me steps → Extends old now
went_extends shapes alone old now me steps went mount = ((went.rings mount).more, (went.rings mount).seen)

-- ---- sound segments

pub sound_later : (shapes : List RingShape) (old now : List (History RingCall)) (segment : Segment) → Extends old now
    → IsSoundAt shapes old segment → IsSoundAt shapes now segment
sound_later shapes old now segment extends is =
    let shape : Shape = shape_at shapes segment.mount in
    let permits : List ℕ → Bool = permits_at shape segment.cursor.filter in
    let before : History RingCall = history_at old segment.mount in
    let more : History RingCall = (extends segment.mount).0 in record {
      within = is.within;
      sound = subst (λ (frames : List (List ℕ)). IsSound permits shape.capacity frames segment)
          (sym (ap published_in (extends segment.mount).1 ∙ published-append before more))
          (IsSound-append permits shape.capacity (published_in before) (published_by more) segment is.sound);
    }

pub all_later : (shapes : List RingShape) (old now : List (History RingCall)) (segments : List Segment)
    → Extends old now → All (IsSoundAt shapes old) segments → All (IsSoundAt shapes now) segments
all_later shapes old now segments extends all k d within = sound_later shapes old now _ extends (all k d within)

-- all segments are sound
pub all_sound : (shapes : List RingShape) (me : ℕ) (histories : List (History RingCall)) (segments : List Segment)
    → IsResumable shapes me histories segments → All (IsSoundAt shapes histories) segments
all_sound shapes me histories [] is = All-nil (IsSoundAt shapes histories)
all_sound shapes me histories (segment ∷ older) is =
    All-cons (IsSoundAt shapes histories) segment older (record { within = is.0; sound = is.1.sound }) is.2

-- ---- the newest segment

-- it stays while its caller neither joins nor reads
pub resumable_stays : (shapes : List RingShape) (me : ℕ) (old now : List (History RingCall))
    → ((mount : ℕ) → Resumes me (history_at old mount) (history_at now mount))
    → (segments : List Segment) → IsResumable shapes me old segments → IsResumable shapes me now segments
resumable_stays shapes me old now resumes [] is = tt
resumable_stays shapes me old now resumes (segment ∷ older) is = (
  is.0,
  segment_stays (shape_at shapes segment.mount) me (history_at old segment.mount) (history_at now segment.mount)
      segment is.1 (resumes segment.mount),
  all_later shapes old now older (λ mount. ((resumes mount).0, (resumes mount).1)) is.2,
)

quiet_looks : (mount : ℕ) (lives : List (Base × Option ℕ))
    → list_all is_quiet (calls_in (on_ring mount (looked lives))) ≡ true
quiet_looks mount [] = refl
quiet_looks mount (live ∷ lives) =
    elim (live.0.mount == mount) as (λ same.
    list_all is_quiet (calls_in (cond same ((Look, Looked live.1) ∷ []) [] ++ on_ring mount (looked lives))) ≡ true) [
      | true ↦ quiet_looks mount lives
      | false ↦ quiet_looks mount lives
    ]

-- looks leave it
pub looks_resume : (shapes : List RingShape) (alone : Bool) (old now : List (History RingCall)) (me : ℕ)
    (lives : List (Base × Option ℕ)) → Went shapes alone old now me (looked lives)
    → (mount : ℕ) → Resumes me (history_at old mount) (history_at now mount)
looks_resume shapes alone old now me lives went mount = (
  (went.rings mount).more,
  (went.rings mount).seen,
  ap (list_all is_quiet) (sym (calls_told (answer_at shapes mount) me (history_at old mount) (went.rings mount).more)
      ∙ ap calls_in (went.rings mount).mine)
      ∙ quiet_looks mount lives,
)

-- and so do other callers
pub was_resumable : (shapes : List RingShape) (me : ℕ) (now : List (History RingCall)) (segments : List Segment)
    → WasResumable shapes me now segments → IsResumable shapes me now segments
was_resumable shapes me now segments was =
    resumable_stays shapes me was.0 now
    (λ mount. goes_resumes me (history_at was.0 mount) (history_at now mount) (was.2.rings mount)) segments was.1

-- a segment begins, and those before it stay sound
pub resumable_joined : (shapes : List RingShape) (me : ℕ) (old now : List (History RingCall)) (segments : List Segment)
    (segment : Segment) → Extends old now → segment.mount < length shapes
    → IsSegment (shape_at shapes segment.mount) me (history_at now segment.mount) segment
    → IsResumable shapes me old segments → IsResumable shapes me now (segment ∷ segments)
resumable_joined shapes me old now segments segment extends within is before =
    (within, is, all_later shapes old now segments extends (all_sound shapes me old segments before))

-- ---- the frames that were sent

-- what was sent stays when more is published
pub sent_later : (shapes : List RingShape) (old now : List (History RingCall)) (segments : List Segment)
    → Extends old now → All (IsSoundAt shapes old) segments
    → frames_sent shapes now segments ≡ frames_sent shapes old segments
sent_later shapes old now [] extends all = refl
sent_later shapes old now (segment ∷ older) extends all =
    let shape : Shape = shape_at shapes segment.mount in
    let permits : List ℕ → Bool = permits_at shape segment.cursor.filter in
    let before : History RingCall = history_at old segment.mount in
    let more : History RingCall = (extends segment.mount).0 in
    let here : IsSoundAt shapes old segment = All-head (IsSoundAt shapes old) segment older all in
    ap (λ (l : List (List ℕ)). l ++ frames_of shapes now segment)
    (sent_later shapes old now older extends (All-tail (IsSoundAt shapes old) segment older all))
    ∙ ap (λ (l : List (List ℕ)). frames_sent shapes old older ++ l)
    (ap (λ (frames : List (List ℕ)). kept permits frames segment)
    (ap published_in (extends segment.mount).1 ∙ published-append before more)
    ∙ kept-append permits shape.capacity (published_in before) (published_by more) segment here.sound)

-- a segment that begins was sent nothing
pub sent_begun : (shapes : List RingShape) (histories : List (History RingCall)) (mount : ℕ) (cursor : Cursor)
    (segments : List Segment)
    → frames_sent shapes histories (begun mount cursor ∷ segments) ≡ frames_sent shapes histories segments
sent_begun shapes histories mount cursor segments =
    ap (λ (l : List (List ℕ)). frames_sent shapes histories segments ++ l)
    (kept-begun (permits_at (shape_at shapes mount) cursor.filter) (published_in (history_at histories mount)) mount
    cursor)
    ∙ append-nil (frames_sent shapes histories segments)

-- a read adds the frames that it takes
pub sent_read : (shapes : List RingShape) (old now : List (History RingCall)) (budget : ℕ) (segment : Segment)
    (older : List Segment) → Extends old now → All (IsSoundAt shapes old) (segment ∷ older)
    → frames_sent shapes now (read_on (report_at shapes now budget segment) segment ∷ older)
    ≡ frames_sent shapes old (segment ∷ older) ++ frames_at shapes now budget segment
sent_read shapes old now budget segment older extends all =
    let shape : Shape = shape_at shapes segment.mount in
    let permits : List ℕ → Bool = permits_at shape segment.cursor.filter in
    let frames : List (List ℕ) = published_in (history_at now segment.mount) in
    let here : IsSoundAt shapes now segment =
    sound_later shapes old now segment extends (All-head (IsSoundAt shapes old) segment older all) in
    let taken : List (List ℕ) = frames_at shapes now budget segment in
    ap (λ (l : List (List ℕ)). frames_sent shapes now older ++ l)
    (kept-read permits shape.capacity frames segment budget here.sound)
    ∙ sym (append_assoc (frames_sent shapes now older) (frames_of shapes now segment) taken)
    ∙ ap (λ (l : List (List ℕ)). l ++ taken) (sent_later shapes old now (segment ∷ older) extends all)
