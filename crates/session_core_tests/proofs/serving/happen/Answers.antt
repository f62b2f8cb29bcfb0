use Rattle.std.proofs.Common.{◌∙◌, ap, arith, take}
use Rattle.session_model.specs.Called.{alone_at, seen_at}
use Rattle.session_core_tests.proofs.FollowLemmas.{taken_few, fed_follows, fed_others, turned_follows, turned_others}
use Rattle.session_core_tests.proofs.serving.happen.Goals as goal

pub returns-in-In-clause-follows : goal.returns-in-In-clause-follows
returns-in-In-clause-follows g c =
    let t = g.T.Turns in
    let b = g.B.Turns in
    let old = c.args.places.now in
    let new = c.feed-flow.new.places in
    fed_follows c.args.config.now (alone_at t.alone b.alone old.rings.items old.book) c.args.served.now.session
    c.feed-flow.new.self (seen_at t.seen b.seen old.rings.items old.book)
    (seen_at t.seen b.seen new.rings.items new.book) (take c.min.result c.in-In.bytes.now)
    c.args.served.now.sent.items c.feed-flow.new.out.items c.args.room
    (taken_few c.min.result c.args.room c.in-In.bytes.now (omega (arith, c.min.ensures))) c.requires.follows
    c.feed-flow.ensures.fed

pub returns-in-In-clause-others : goal.returns-in-In-clause-others
returns-in-In-clause-others g c = λ by apart.
    let t = g.T.Turns in
    let b = g.B.Turns in
    let old = c.args.places.now in
    let new = c.feed-flow.new.places in
    fed_others c.args.config.now (alone_at t.alone b.alone old.rings.items old.book) c.args.served.now.session
    c.feed-flow.new.self (seen_at t.seen b.seen old.rings.items old.book)
    (seen_at t.seen b.seen new.rings.items new.book) (take c.min.result c.in-In.bytes.now)
    c.args.served.now.sent.items c.feed-flow.new.out.items c.args.room by c.requires.alone c.feed-flow.ensures.itself.me apart
    c.requires.follows c.feed-flow.ensures.fed

pub returns-in-Turn-clause-follows : goal.returns-in-Turn-clause-follows
returns-in-Turn-clause-follows g c =
    let t = g.T.Turns in
    let b = g.B.Turns in
    let old = c.args.places.now in
    let new = c.turn-flow.new.places in
    turned_follows c.args.config.now (alone_at t.alone b.alone old.rings.items old.book) c.args.served.now.session
    c.turn-flow.new.self (seen_at t.seen b.seen old.rings.items old.book)
    (seen_at t.seen b.seen new.rings.items new.book) c.in-Turn.budget c.args.served.now.sent.items
    c.turn-flow.new.out.items c.args.room c.requires.follows
    (λ is. (
      (c.turn-flow.ensures.bystander is).0,
      ap (λ rings. seen_at t.seen b.seen rings new.book) (c.turn-flow.ensures.bystander is).1
          ∙ ap (λ book. seen_at t.seen b.seen old.rings.items book) (c.turn-flow.ensures.bystander is).2,
    ))
    (λ rover opening text steps histories sent. c.turn-flow.ensures.turned rover c.args.config.now opening text steps
    histories sent c.requires.shapes c.requires.caps)

pub returns-in-Turn-clause-others : goal.returns-in-Turn-clause-others
returns-in-Turn-clause-others g c = λ by apart.
    let t = g.T.Turns in
    let b = g.B.Turns in
    let old = c.args.places.now in
    let new = c.turn-flow.new.places in
    turned_others c.args.config.now (alone_at t.alone b.alone old.rings.items old.book) c.args.served.now.session
    c.turn-flow.new.self (seen_at t.seen b.seen old.rings.items old.book)
    (seen_at t.seen b.seen new.rings.items new.book) c.in-Turn.budget c.args.served.now.sent.items
    c.turn-flow.new.out.items c.args.room by c.requires.alone c.turn-flow.ensures.itself.me apart c.requires.follows
    (λ is. (
      (c.turn-flow.ensures.bystander is).0,
      ap (λ rings. seen_at t.seen b.seen rings new.book) (c.turn-flow.ensures.bystander is).1
          ∙ ap (λ book. seen_at t.seen b.seen old.rings.items book) (c.turn-flow.ensures.bystander is).2,
    ))
    (λ rover opening text steps histories sent. c.turn-flow.ensures.turned rover c.args.config.now opening text steps
    histories sent c.requires.shapes c.requires.caps)
