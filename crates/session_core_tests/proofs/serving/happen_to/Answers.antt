-- The connection to which nothing happens follows the places still.
use Rattle.std.proofs.Common.{sym}
use Rattle.session_model.specs.Called.{seen_at}
use Rattle.session_core_tests.proofs.FollowLemmas.{follows_less, follows_on}
use Rattle.session_core_tests.proofs.serving.happen_to.Goals as goal

pub returns-in-First-clause-second : goal.returns-in-First-clause-second
returns-in-First-clause-second g c =
    let t = g.T.Turns in
    let b = g.B.Turns in
    let old = c.args.places.now in
    let new = c.happen.new.places in
    let other = c.args.two.now.second.session in
    follows_less c.args.config.now other (seen_at t.seen b.seen new.rings.items new.book) c.args.room c.happen.result
    c.happen.ensures.less
    (follows_on c.args.config.now other (seen_at t.seen b.seen old.rings.items old.book)
    (seen_at t.seen b.seen new.rings.items new.book) c.args.room c.requires.second
    (c.happen.ensures.others other.me (λ e. c.requires.apart (sym e))))

pub returns-in-Second-clause-first : goal.returns-in-Second-clause-first
returns-in-Second-clause-first g c =
    let t = g.T.Turns in
    let b = g.B.Turns in
    let old = c.args.places.now in
    let new = c.happen-in-Second.new.places in
    let other = c.args.two.now.first.session in
    follows_less c.args.config.now other (seen_at t.seen b.seen new.rings.items new.book) c.args.room
    c.happen-in-Second.result c.happen-in-Second.ensures.less
    (follows_on c.args.config.now other (seen_at t.seen b.seen old.rings.items old.book)
    (seen_at t.seen b.seen new.rings.items new.book) c.args.room c.requires.first
    (c.happen-in-Second.ensures.others other.me c.requires.apart))
