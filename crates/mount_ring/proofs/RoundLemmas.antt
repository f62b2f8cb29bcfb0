-- What the turns of a source and a reader leave at a desk: the source still holds, and the reader
-- may read.
use Rattle.std.proofs.Common.{◌≡◌, ℕ, false, List, [], ◌∷◌, ◌++◌, ap, ◌∙◌, arith}
use Rattle.std.specs.Prelude.{IsTrue, ◌≢◌, length, Result, Ok, Err, IfOk, IfErr}
use Rattle.turn_log.specs.declared.place.TurnFault.{TurnFault}
use Rattle.turn_log.specs.Faults.{IsFault, worn_of}
use Rattle.mount_ring.specs.declared.call.RingAnswer.{RingAnswer}
use Rattle.mount_ring.specs.declared.cursor.Cursor.{Cursor}
use Rattle.mount_ring.specs.declared.cursor.ReadReport.{ReadReport}
use Rattle.mount_ring.specs.declared.call.RingCall.{RingCall}
use Rattle.mount_ring.specs.declared.call.RingCall.TheVariants.{Publish, Read}
use Rattle.mount_ring.specs.declared.call.RingAnswer.TheVariants as answers
use Rattle.mount_ring.specs.declared.shape.RingShape.{RingShape}
use Rattle.mount_ring.specs.History.{State, state_of, answer, filled, is_holder, is_readable, permits_at}
use Rattle.mount_ring.specs.Shapes.{shape_of}
use Rattle.mount_ring.specs.Reads.{read_report}
use Rattle.mount_ring.specs.StillFits.{one_more, still_fits_one}
use Rattle.mount_ring.proofs.HistoryLemmas.{readable-read}

abbrev pub IsHeld : List (ℕ × RingCall) → Type 0
IsHeld h = IsTrue (is_holder (state_of h).holder 1 1)

abbrev pub MayRead : RingShape → List (ℕ × RingCall) → Cursor → Type 0
MayRead shape h cursor = IsTrue (is_readable (shape_of shape) (state_of h) cursor)

pub held_published : (h now : List (ℕ × RingCall)) (frame : List ℕ) → now ≡ h ++ (1, Publish 1 frame) ∷ [] → IsHeld h
    → IsHeld now
held_published h now frame goes held =
    ap (λ (s : State). is_holder s.holder 1 1) (ap state_of goes ∙ one_more h (1, Publish 1 frame)) ∙ held

pub read_published : (shape later : RingShape) (h now : List (ℕ × RingCall)) (frame : List ℕ) (cursor : Cursor)
    → later ≡ shape →
    now ≡ h ++ (1, Publish 1 frame) ∷ [] → IsHeld h → MayRead shape h cursor → MayRead later now cursor
read_published shape later h now frame cursor same goes held may =
    let apart : 1 ≢ 2 = λ e. omega (arith, e) in
    ap (λ (z : RingShape). is_readable (shape_of z) (state_of now) cursor) same
    ∙ ap (λ (l : List (ℕ × RingCall)). is_readable (shape_of shape) (state_of l) cursor) goes
    ∙ still_fits_one (shape_of shape) h 2 1 (Read cursor 0) (Publish 1 frame) may apart held

pub held_read : (h now : List (ℕ × RingCall)) (cursor : Cursor) (budget : ℕ) → now ≡ h ++ (2, Read cursor budget) ∷ []
    → IsHeld h → IsHeld now
held_read h now cursor budget goes held =
    ap (λ (s : State). is_holder s.holder 1 1) (ap state_of goes ∙ one_more h (2, Read cursor budget)) ∙ held

pub read_read : (shape later : RingShape) (h now : List (ℕ × RingCall)) (cursor : Cursor) (budget : ℕ)
    (report : ReadReport) → later ≡ shape →
    now ≡ h ++ (2, Read cursor budget) ∷ [] → MayRead shape h cursor →
    answers.Read report ≡ answer (shape_of shape) (state_of h) (Read cursor budget) → MayRead later now report.cursor
read_read shape later h now cursor budget report same goes may told =
    let z = shape_of shape in
    let report_is : report
    ≡ read_report (permits_at z cursor.filter) z.capacity (state_of h).published cursor budget = cc in
    ap (λ (z : RingShape). is_readable (shape_of z) (state_of now) report.cursor) same
    ∙ ap (λ (s : State). is_readable z s report.cursor) (ap state_of goes ∙ one_more h (2, Read cursor budget))
    ∙ ap (λ (r : ReadReport). is_readable z (state_of h) r.cursor) report_is
    ∙ readable-read z (state_of h) cursor budget may

pub held_refused : (h now : List (ℕ × RingCall)) → now ≡ h → IsHeld h → IsHeld now
held_refused h now same held = ap (λ (l : List (ℕ × RingCall)). is_holder (state_of l).holder 1 1) same ∙ held

pub read_refused : (shape later : RingShape) (h now : List (ℕ × RingCall)) (cursor : Cursor) → later ≡ shape → now ≡ h →
    MayRead shape h cursor → MayRead later now cursor
read_refused shape later h now cursor same goes may =
    ap (λ (z : RingShape). is_readable (shape_of z) (state_of now) cursor) same
    ∙ ap (λ (l : List (ℕ × RingCall)). is_readable (shape_of shape) (state_of l) cursor) goes ∙ may

-- a turn that publishes, whether it was taken or refused
pub round_published : (shape later : RingShape) (h now : List (ℕ × RingCall)) (frame : List ℕ) (cursor : Cursor)
    (result : Result RingAnswer TurnFault) (before after : List (List ℕ)) → later ≡ shape →
    IfOk result (λ reply. (now ≡ h ++ (1, Publish 1 frame) ∷ [])
    × (reply ≡ answer (shape_of shape) (state_of h) (Publish 1 frame))
    × (after ≡ filled (shape_of shape) (state_of h) (Publish 1 frame) before)) →
    IfErr result (λ fault. (now ≡ h) × (after ≡ before) × IsFault false (worn_of (length now)) fault) →
    IsHeld h → MayRead shape h cursor → IsHeld now × MayRead later now cursor
round_published shape later h now frame cursor (Ok reply) before after same ok err held may =
    (held_published h now frame ok.0 held, read_published shape later h now frame cursor same ok.0 held may)
round_published shape later h now frame cursor (Err fault) before after same ok err held may =
    (held_refused h now err.0 held, read_refused shape later h now cursor same err.0 may)
