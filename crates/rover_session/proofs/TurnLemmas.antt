-- A turn's read of the last of the segments, as the code keeps them.
use Rattle.std.proofs.Common.{◌≡◌, ℕ, ◌+◌, ◌<◌, ◌≤◌, Bool, IsTrue, List, [], ◌∷◌, ◌++◌, length, get_or, set, Option, Result, Ok, Err, refl, sym, ap, subst, ◌∙◌, arith}
use Rattle.std.specs.Prelude.{reverse, OnErr}
use Rattle.std.specs.List.{All}
use Rattle.std.proofs.lemmas.List.{append-nil, set-get_or}
use Rattle.std.proofs.lemmas.List.Elements.{All-nil}
use Rattle.rtcm_frame.specs.Transport.{is_frame}
use Rattle.turn_log.specs.History.{History}
use Rattle.gga_read.specs.declared.Position.{Position}
use Rattle.mount_ring.specs.declared.call.RingCall.{RingCall}
use Rattle.mount_ring.specs.declared.call.RingCall.TheVariants as calls
use Rattle.mount_ring.specs.declared.call.RingAnswer.TheVariants as answers
use Rattle.mount_ring.specs.declared.cursor.ReadReport.{ReadReport}
use Rattle.mount_ring.specs.declared.shape.RingShape.{RingShape}
use Rattle.rover_cursor.specs.declared.segment.Segment.{Segment}
use Rattle.rover_cursor.specs.Told.{IsSegment}
use Rattle.session_calls.specs.Steps.{Step, at_ring}
use Rattle.session_calls.specs.Rings.{history_at, shape_at, Went}
use Rattle.rover_session.specs.Body.{body_of}
use Rattle.rover_session.specs.declared.session.RoverSession.TheInside.{Inside}
use Rattle.rover_session.specs.Kept.{rover_in}
use Rattle.rover_session.specs.Standing.{Rover, IsResumable, WasResumable, HasReadAt, frames_sent, frames_read, report_at, frames_at, Stands, ReadOn, TurnSent}
use Rattle.rover_session.proofs.SegmentLemmas.{went_extends, all_sound, sent_read, was_resumable}
use Rattle.rover_session.proofs.StandsLemmas.{newest_is, read_none, read_newest, resumable_read}

-- what a session keeps can be read on, where its value can
pub resumed : (shapes : List RingShape) (histories : List (History RingCall)) (inside : Inside) (rover : Rover)
    → rover_in inside ≡ rover → WasResumable shapes rover.me histories rover.segments
    → IsResumable shapes inside.admitted.me histories (reverse inside.segments.items)
resumed shapes histories inside rover is was =
    was_resumable shapes inside.admitted.me histories (reverse inside.segments.items)
    (subst (λ (r : Rover). WasResumable shapes r.me histories r.segments) (sym is) was)

-- These are the segments, the oldest first, and the last one stands at this place.
module _ (shapes : List RingShape) (items : List Segment) (n : ℕ) (d segment : Segment) (long : length items ≡ n + 1)
    (here : segment ≡ get_or items n d) where
  older : List Segment
  older = (newest_is items n d long).0

  -- the newest stands first
  newest : reverse items ≡ segment ∷ older
  unfolding older
  newest = (newest_is items n d long).1 ∙ ap (λ (s : Segment). s ∷ older) (sym here)

  pub segment_within : (me : ℕ) (histories : List (History RingCall)) → IsResumable shapes me histories (reverse items)
      → segment.mount < length shapes
  segment_within me histories is =
      let first : IsResumable shapes me histories (segment ∷ older) = subst (IsResumable shapes me histories) newest
      is in
      first.0

  pub segment_told : (me : ℕ) (histories : List (History RingCall)) → IsResumable shapes me histories (reverse items)
      → IsSegment (shape_at shapes segment.mount) me (history_at histories segment.mount) segment
  segment_told me histories is =
      let first : IsResumable shapes me histories (segment ∷ older) = subst (IsResumable shapes me histories) newest
      is in
      first.1

  -- what the turn's read takes
  read_here : (histories : List (History RingCall)) (budget : ℕ)
      → frames_read shapes histories budget (reverse items) ≡ frames_at shapes histories budget segment
  read_here histories budget = ap (frames_read shapes histories budget) newest

  -- the read made the next segment of it, and took these frames
  module _ (alone : Bool) (me : ℕ) (old now : List (History RingCall)) (budget : ℕ) (next : Segment)
      (taken : List (List ℕ)) (count : ℕ) (read : HasReadAt shapes alone old now me budget segment next taken count)
    where
      -- the segments after it
      read_newest_is : reverse (set items n next) ≡ next ∷ older
      unfolding older
      read_newest_is = (newest_is items n d long).2 next

      turn_read : (rover : Rover) (first : Option Position) (bytes : List ℕ) (steps : List Step) → rover.me ≡ me
          → rover.segments ≡ reverse items → Stands rover first bytes steps
          → ReadOn shapes alone old now budget rover.segments (record rover { segments = reverse (set items n next) })
          first
          bytes steps
      turn_read rover first bytes steps mine all stands =
          let report : ReadReport = report_at shapes now budget segment in
          subst (λ (s : List Segment). ReadOn shapes alone old now budget rover.segments (record rover { segments = s })
          first bytes steps)
          (ap (λ (s : Segment). s ∷ older) (sym read.followed) ∙ sym read_newest_is)
          (read_newest shapes alone old now budget rover segment older report first bytes steps (all ∙ newest)
          (subst (λ (caller : ℕ). Went shapes alone old now caller
          (at_ring segment.mount (calls.Read segment.cursor budget) (answers.Read report) ∷ [])) (sym mine) read.went)
          stands)

      pub turn_resumable : IsResumable shapes me old (reverse items)
          → IsResumable shapes me now (reverse (set items n next))
      turn_resumable before =
          subst (IsResumable shapes me now) (sym read_newest_is)
          (resumable_read shapes alone me old now _ segment next older read.went
          (ap (λ (s : Segment). s.mount) read.followed) read.segment
          (subst (IsResumable shapes me old) newest before))

      turn_sent : IsResumable shapes me old (reverse items)
          → frames_sent shapes now (reverse (set items n next))
          ≡ frames_sent shapes old (reverse items) ++ frames_read shapes now budget (reverse items)
      turn_sent before =
          let report : ReadReport = report_at shapes now budget segment in
          ap (frames_sent shapes now) (read_newest_is ∙ ap (λ (s : Segment). s ∷ older) read.followed)
          ∙ sent_read shapes old now budget segment older (went_extends shapes alone old now me _ read.went)
          (all_sound shapes me old (segment ∷ older) (subst (IsResumable shapes me old) newest before))
          ∙ ap (λ (l : List (List ℕ)). l ++ frames_at shapes now budget segment)
          (ap (frames_sent shapes old) (sym newest))
          ∙ ap (λ (l : List (List ℕ)). frames_sent shapes old (reverse items) ++ l) (sym (read_here now budget))

      -- what it took was sent, in bytes that stand behind those before
      pub turn_made : (rover : Rover) (frames : List (List ℕ)) (out_old out_mid out_new : List ℕ) → rover.me ≡ me
          → rover.segments ≡ reverse items → IsResumable shapes me old (reverse items) → frames ≡ taken
          → All (λ (frame : List ℕ). IsTrue (is_frame frame)) frames → out_mid ≡ out_old
          → out_new ≡ out_mid ++ body_of rover.version frames
          → TurnSent shapes alone old now budget rover (record rover { segments = reverse (set items n next) })
          (frames_read shapes now budget rover.segments) out_old out_new count
      turn_made rover frames out_old out_mid out_new mine all before given valid room out =
          let sent : frames_read shapes now budget rover.segments ≡ taken =
          ap (frames_read shapes now budget) all ∙ read_here now budget ∙ sym read.taken in record {
            read = λ first bytes steps stands. turn_read rover first bytes steps mine all stands;
            valid = subst (All (λ (frame : List ℕ). IsTrue (is_frame frame))) (given ∙ sym sent) valid;
            counted = read.counted ∙ ap length (sym sent);
            sent = turn_sent before
                ∙ ap (λ (s : List Segment). frames_sent shapes old s ++ frames_read shapes now budget s) (sym all);
            body = out
                ∙ ap (λ (l : List ℕ). l ++ body_of rover.version frames) room
                ∙ ap (λ (l : List (List ℕ)). out_old ++ body_of rover.version l) (given ∙ sym sent);
          }

  -- a segment that stays leaves all as they are
  pub same_items : (next : Segment) → next ≡ segment → set items n next ≡ items
  same_items next same = ap (set items n) (same ∙ here) ∙ set-get_or items n d

-- without a segment nothing was sent
pub turn_none : (shapes : List RingShape) (alone : Bool) (histories : List (History RingCall)) (budget : ℕ)
    (rover : Rover) (out : List ℕ) → rover.segments ≡ []
    → TurnSent shapes alone histories histories budget rover rover (frames_read shapes histories budget rover.segments)
    out out 0
turn_none shapes alone histories budget rover out none =
    let unread : [] ≡ frames_read shapes histories budget rover.segments =
    sym (ap (frames_read shapes histories budget) none) in record {
      read = λ first bytes steps stands. read_none shapes alone histories budget rover first bytes steps none stands;
      valid = subst (All (λ (frame : List ℕ). IsTrue (is_frame frame))) unread
          (All-nil (λ (frame : List ℕ). IsTrue (is_frame frame)));
      counted = ap length unread;
      sent = sym (append-nil (frames_sent shapes histories rover.segments))
          ∙ ap (λ (l : List (List ℕ)). frames_sent shapes histories rover.segments ++ l) unread;
      body = sym (append-nil out) ∙ ap (λ (l : List (List ℕ)). out ++ body_of rover.version l) unread;
    }

-- no segment
pub no_items : (items : List Segment) → (1 ≤ length items → ⊥) → items ≡ []
no_items [] none = refl
no_items (segment ∷ items) none = absurd (none (omega arith))

-- what stands at a refusal
pub on_err_all : {T E : Type 0} (P : Type 0) (r : Result T E) → P → OnErr r P
on_err_all P (Ok x) is = tt
on_err_all P (Err fault) is = is
