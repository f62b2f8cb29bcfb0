use Rattle.std.proofs.Common.{length}
use Rattle.caster_keep.proofs.posts.+take_posts.Given as goal

abbrev pub decreases-take_posts : goal.decreases-take_posts
decreases-take_posts g l = length l.hands.now.items
