use Rattle.std.proofs.Common.{ap, ◌∙◌}
use Rattle.toml.specs.View.{members_view, table_view, view}
use Rattle.config_write.specs.Members.{put}
use Rattle.config_write.proofs.DataLemmas.{put_view}
use Rattle.config_write.proofs.members.put.Goals as goal

pub returns-in-Ok : goal.returns-in-Ok
returns-in-Ok c =
    ap members_view c.in-Ok.ensures.entries
    ∙ put_view c.args.table.now.entries c.in_ok-key.key c.args.value
    ∙ ap (λ k. put k (view c.args.value) (table_view c.args.table.now)) c.in_ok-key.ensures.ok
