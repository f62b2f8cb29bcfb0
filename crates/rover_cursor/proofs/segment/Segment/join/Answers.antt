use Rattle.std.proofs.Common.{◌++◌, ◌∙◌, sym, ap, refl}
use Rattle.mount_ring.specs.declared.RingCall.TheVariants.{Join}
use Rattle.mount_ring.specs.declared.RingAnswer.TheVariants.{Joined}
use Rattle.rover_cursor.specs.declared.segment.Segment.{Segment}
use Rattle.rover_cursor.proofs.ToldLemmas.{heard_as, segment_joined_by}
use Rattle.rover_cursor.proofs.segment.Segment.join.Goals as goal

pub returns-clause-heard : goal.returns-clause-heard
returns-clause-heard g c =
    heard_as c.in_ok-cursor.ensures.ok (Join c.args.filter) (Joined c.begin.result.cursor) refl
    (c.in-Joined.is ∙ ap Joined (sym (ap (λ (s : Segment). s.cursor) c.begin.ensures)))

pub returns-clause-segment : goal.returns-clause-segment
returns-clause-segment g c =
    segment_joined_by (g.T.Turns.shape c.args.place.now) c.args.mount c.args.me c.args.filter
    (g.T.Turns.seen c.args.place.now ++ c.in_ok-cursor.ensures.ok.others) (g.T.Turns.seen c.turn.new.self)
    c.in-Joined.cursor c.begin.result
    c.requires.filter c.in_ok-cursor.ensures.ok.seen (sym c.in-Joined.is ∙ c.in_ok-cursor.ensures.ok.answered)
    c.begin.ensures
