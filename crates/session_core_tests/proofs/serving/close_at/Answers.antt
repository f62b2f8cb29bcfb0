use Rattle.session_model.specs.Called.{alone_at, seen_at}
use Rattle.session_core_tests.proofs.FollowLemmas.{others_by}
use Rattle.session_core_tests.proofs.serving.close_at.Goals as goal

pub returns-clause-others : goal.returns-clause-others
returns-clause-others g c = λ by apart.
    let t = g.T.Turns in
    let b = g.B.Turns in
    let old = c.args.places.now in
    let new = c.close.new.places in
    let called = c.close.ensures.called c.args.config.now c.requires.shapes c.requires.caps in
    others_by c.args.config.now (alone_at t.alone b.alone old.rings.items old.book)
    (seen_at t.seen b.seen old.rings.items old.book) (seen_at t.seen b.seen new.rings.items new.book)
    c.args.session.me by called.0 c.requires.alone apart called.1
