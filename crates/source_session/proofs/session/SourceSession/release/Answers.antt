use Rattle.std.proofs.Common.{sym, subst}
use Rattle.std.proofs.lemmas.Result.{err_from_is_err_and}
use Rattle.mount_ring.specs.declared.RingAnswer.TheVariants.{Released}
use Rattle.source_session.specs.Calls.{IsHolding}
use Rattle.source_session.proofs.CallLemmas.{held_now, heard_as}
use Rattle.source_session.proofs.session.SourceSession.release.Goals as goal

pub turn-requires-clause-fits : goal.turn-requires-clause-fits
turn-requires-clause-fits g c =
    held_now (g.T.Turns.shape c.args.place.now) _ _ (g.T.Turns.seen c.args.place.now) c.requires.held
    (g.met.T.Turns.legal c.args.place.now)

pub returns-in_err-turn-clause-holds : goal.returns-in_err-turn-clause-holds
returns-in_err-turn-clause-holds g c =
    let p = err_from_is_err_and c.from_residual.result c.from_residual.ensures.1 in
    rw p.1 (subst (IsHolding c.args.self.now.me c.args.self.now.claim) (sym c.in_err-turn.ensures.err.0)
    (held_now (g.T.Turns.shape c.args.place.now) _ _ (g.T.Turns.seen c.args.place.now) c.requires.held
    (g.met.T.Turns.legal c.args.place.now)))

pub returns-clause-released : goal.returns-clause-released
returns-clause-released g c = heard_as Released c.in_ok-turn.ensures.ok c.in_ok-turn.ensures.ok.answered
