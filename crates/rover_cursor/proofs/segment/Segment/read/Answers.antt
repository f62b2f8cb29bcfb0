use Rattle.std.proofs.Common.{◌≡◌, ◌++◌, ◌∙◌, length, sym, ap, subst}
use Rattle.std.specs.Prelude.{option_to_list, List}
use Rattle.mount_ring.specs.declared.Lap.{Lap}
use Rattle.mount_ring.specs.declared.ReadReport.{ReadReport}
use Rattle.mount_ring.specs.declared.RingCall.TheVariants as calls
use Rattle.mount_ring.specs.declared.RingAnswer.TheVariants as answers
use Rattle.mount_ring.specs.Shapes.{shape_of}
use Rattle.mount_ring.specs.History.{Shape}
use Rattle.rover_cursor.specs.declared.segment.Segment.{Segment}
use Rattle.rover_cursor.specs.Segments.{read_on}
use Rattle.rover_cursor.specs.Told.{IsSegment, report_in, frames_in}
use Rattle.rover_cursor.proofs.ToldLemmas.{after_read, heard_as, next_fits, noted, sums_after, taken_by}
use Rattle.rover_cursor.proofs.segment.Segment.read.Goals as goal

pub turn-requires-clause-fits : goal.turn-requires-clause-fits
turn-requires-clause-fits g c =
    next_fits (shape_of (g.T.Turns.shape c.args.place.now)) c.args.me c.args.budget c.requires.resumes.0
    (g.T.Turns.seen c.args.place.now) _
    c.args.self.now (ap (λ (s : Segment). s.cursor) c.self.view_is) c.requires.resumes.1 c.requires.resumes.2

pub move_on-requires : goal.move_on-requires
move_on-requires g c =
    sums_after (shape_of (g.T.Turns.shape c.args.place.now)) c.args.me (g.T.Turns.seen c.turn.new.self)
    c.args.self.now c.in-Read.report _ _
    (ap (λ (s : Segment). s.sent) c.self.view_is) (ap (λ (s : Segment). s.overrun) c.self.view_is)
    (after_read (shape_of (g.T.Turns.shape c.args.place.now)) c.args.me c.args.budget c.requires.resumes.0
    (g.T.Turns.seen c.args.place.now)
    c.in_ok-report.ensures.ok.others (g.T.Turns.seen c.turn.new.self) _ c.args.self.now c.in-Read.report
    (ap (λ (s : Segment). s.cursor) c.self.view_is)
    c.requires.resumes.1 c.requires.resumes.2 c.in_ok-report.ensures.ok.none_of_mine c.in_ok-report.ensures.ok.seen
    (sym c.in-Read.is ∙ c.in_ok-report.ensures.ok.answered)).0

-- the segment after the read, and what the read answered
read_is : (g : Rattle.rover_cursor.proofs.segment.Segment.read.Given.Over) (c : goal.After-move_on g) →
    IsSegment (shape_of (g.T.Turns.shape c.args.place.now)) c.args.me (g.T.Turns.seen c.turn.new.self)
    (read_on c.in-Read.report c.args.self.now)
    × (c.in-Read.report
    ≡ report_in (shape_of (g.T.Turns.shape c.args.place.now)) (g.T.Turns.seen c.turn.new.self) c.args.self.now.cursor
    c.args.budget)
read_is g c =
    after_read (shape_of (g.T.Turns.shape c.args.place.now)) c.args.me c.args.budget c.requires.resumes.0
    (g.T.Turns.seen c.args.place.now)
    c.in_ok-report.ensures.ok.others (g.T.Turns.seen c.turn.new.self) _ c.args.self.now c.in-Read.report
    (ap (λ (s : Segment). s.cursor) c.self.view_is)
    c.requires.resumes.1 c.requires.resumes.2 c.in_ok-report.ensures.ok.none_of_mine c.in_ok-report.ensures.ok.seen
    (sym c.in-Read.is ∙ c.in_ok-report.ensures.ok.answered)

-- the segment that is kept
kept_is : (g : Rattle.rover_cursor.proofs.segment.Segment.read.Given.Over) (c : goal.After-move_on g) →
    c.move_on.new.self ≡ read_on c.in-Read.report c.args.self.now
kept_is g c =
    noted c.args.self.now c.move_on.new.self c.in-Read.report _ _ _ _ _
    (ap (λ (s : Segment). s.mount) c.self.view_is) (ap (λ (s : Segment). s.from) c.self.view_is)
    (ap (λ (s : Segment). s.sent) c.self.view_is) (ap (λ (s : Segment). s.overrun) c.self.view_is)
    (c.note_lap.ensures
    ∙ ap (λ (l : List Lap). l ++ option_to_list c.in-Read.report.lapped) (c.reserve.ensures.items
    ∙ ap (λ (s : Segment). s.laps) c.self.view_is))
    c.move_on.ensures

pub returns-clause-read : goal.returns-clause-read
returns-clause-read g c =
    let shape : Shape = shape_of (g.T.Turns.shape c.args.place.now) in
    let taken : c.turn.new.room
    ≡ frames_in shape (g.T.Turns.seen c.turn.new.self) c.args.self.now.cursor c.args.budget =
    taken_by shape c.args.me c.args.budget (g.T.Turns.seen c.args.place.now ++ c.in_ok-report.ensures.ok.others)
    (g.T.Turns.seen c.turn.new.self) _ c.args.self.now.cursor c.args.out.now c.turn.new.room
    (ap (λ (s : Segment). s.cursor) c.self.view_is) c.in_ok-report.ensures.ok.seen c.in_ok-report.ensures.ok.room in
    record {
      heard = heard_as c.in_ok-report.ensures.ok (calls.Read c.args.self.now.cursor c.args.budget) (answers.Read _)
          (ap (λ (s : Segment). calls.Read s.cursor c.args.budget) c.self.view_is)
          (c.in-Read.is ∙ ap answers.Read (read_is g c).1);
      followed = kept_is g c ∙ ap (λ (r : ReadReport). read_on r c.args.self.now) (read_is g c).1;
      segment = subst (IsSegment shape c.args.me (g.T.Turns.seen c.turn.new.self)) (sym (kept_is g c))
          (read_is g c).0;
      taken = taken;
      counted = ap (λ (r : ReadReport). r.taken) (read_is g c).1 ∙ sym (ap length taken);
    }
