-- The last takes its post behind the others.
use Rattle.std.proofs.Common.{[], sym, append-nil, arith}
use Rattle.caster_keep.specs.Stations.{posted}
use Rattle.caster_keep.proofs.DutyLemmas.{none_posted, posts-snoc}
use Rattle.caster_keep.proofs.posts.+take_posts.Goals as goal

pub returns-in_default-clause-posts : goal.returns-in_default-clause-posts
returns-in_default-clause-posts g t c = (
  [],
  sym (append-nil c.args.posts.now.items),
  none_posted (posted c.args.config.now c.args.table.now) _ c.args.hands.now.items
      (omega (arith, c.in_default.ensures.cases.0, c.args.hands.now.ok.0)),
)

pub returns-clause-posts : goal.returns-clause-posts
returns-clause-posts g t c =
    let rest = c.take_posts.ensures.posts in
    posts-snoc _ (posted c.args.config.now c.args.table.now) _ c.args.hands.now.items c.pop.new.self.items c.in-Some.hand
    c.args.posts.now.items c.take_posts.new.posts.items c.push_reserved.new.self.items rest.0 c.new.result
    c.in-Some.ensures.items rest.1 rest.2 c.push_reserved.ensures.items c.new.ensures
