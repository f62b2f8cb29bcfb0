use Rattle.std.proofs.Common.{length}
use Rattle.caster_keep.proofs.posts.+leave_posts.Given as goal

abbrev pub decreases-leave_posts : goal.decreases-leave_posts
decreases-leave_posts g l = length l.posts.items
