use Rattle.std.proofs.Common.{ap}
use Rattle.source_session.proofs.TakenLemmas.{none_weaker}
use Rattle.upstream_relay.proofs.StageLemmas.{body_fed}
use Rattle.upstream_relay.proofs.body.feed_body.Goals as goal

pub returns-in-Ok-clause-adds : goal.returns-in-Ok-clause-adds
returns-in-Ok-clause-adds g c = λ mount before steps x.
    let fed = c.feed.ensures in
    body_fed _ _ c.args.source.now.me mount _ c.args.source.now c.feed.new.self before c.args.bytes.now steps _ _
    (ap g.T.Turns.seen) fed.halted fed.source.0 fed.source.1 fed.source.2 fed.stands x _ fed.halt fed.heard

pub returns-in-Err-clause-adds : goal.returns-in-Err-clause-adds
returns-in-Err-clause-adds g c = λ mount before steps x.
    let fed = c.feed.ensures in
    body_fed _ _ c.args.source.now.me mount _ c.args.source.now c.feed.new.self before c.args.bytes.now steps _ _
    (ap g.T.Turns.seen) fed.halted fed.source.0 fed.source.1 fed.source.2 fed.stands x _ fed.halt fed.heard

pub returns-in-Ok-clause-holds : goal.returns-in-Ok-clause-holds
returns-in-Ok-clause-holds g c = none_weaker c.args.source.now.halt (λ taken. taken.holds) c.feed.ensures.taken

pub returns-in-Err-clause-holds : goal.returns-in-Err-clause-holds
returns-in-Err-clause-holds g c = none_weaker c.args.source.now.halt (λ taken. taken.holds) c.feed.ensures.taken
