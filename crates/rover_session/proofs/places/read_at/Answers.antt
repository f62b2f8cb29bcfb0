-- The place that is read changes as a turn changes it, and the others do not change.
use Rattle.std.proofs.Common.{true, ℕ}
use Rattle.std.proofs.lemmas.Result.{IfOk-weaker, on_err_weaker, MatchResult-weaker}
use Rattle.session_calls.proofs.PlaceLemmas.{kept_by_one}
use Rattle.rover_session.proofs.AtLemmas.{stay_by_one, turn_refused, read_resumes, read_by_one}
use Rattle.rover_session.proofs.places.read_at.Goals as goal

pub read-requires-clause-resumes : goal.read-requires-clause-resumes
read-requires-clause-resumes g c =
    read_resumes g.T.Turns.shape g.T.Turns.seen c.args.places.now c.args.segment.now.mount c.index-places-segment.result
    c.args.me c.args.segment.now c.requires.within c.requires.segment

pub returns-clause-stay : goal.returns-clause-stay
returns-clause-stay g c =
    stay_by_one g.T.Turns c.args.places.now c.args.segment.now.mount c.index-places-segment.result c.read.new.place
    c.read.ensures.same c.read.ensures.worn

pub returns-clause-read : goal.returns-clause-read
returns-clause-read g c =
    IfOk-weaker c.read.result _ _
    (λ (count : ℕ). read_by_one g.T.Turns.shape g.T.Turns.alone g.T.Turns.seen c.args.places.now
    c.index-places-segment.result c.read.new.place c.args.me c.args.budget c.args.segment.now c.read.new.self
    c.read.new.out count c.requires.within) c.read.ensures.read

pub returns-clause-err : goal.returns-clause-err
returns-clause-err g c =
    on_err_weaker c.read.result
    (λ same. (
      kept_by_one g.T.Turns.seen c.args.places.now c.args.segment.now.mount c.index-places-segment.result
          c.read.new.place same.0,
      same.1,
    )) c.read.ensures.err

pub returns-clause-cause : goal.returns-clause-cause
returns-clause-cause g c =
    MatchResult-weaker c.read.result c.read.ensures.fault (λ taken any. any)
    (λ fault is. turn_refused true g.T.Turns.worn c.args.places.now c.args.segment.now.mount c.read.new.place fault
    c.requires.within is)
