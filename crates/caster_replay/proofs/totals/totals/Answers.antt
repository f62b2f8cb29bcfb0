use Rattle.std.proofs.Common.{◌∙◌, map, ap}
use Rattle.session_model.specs.Reports.{mount_total}
use Rattle.caster_replay.proofs.SumLemmas.{closed_by}
use Rattle.caster_replay.proofs.totals.totals.Goals as goal

pub returns : goal.returns
returns g c =
    closed_by c.args.config.now c.args.desks.now.seen c.new.result c.new-2.result c.total.result
    (c.new.ensures ∙ c.in_ok-mounts.ensures ∙ ap (map mount_total) c.rings.ensures.seen_are)
    (c.new-2.ensures ∙ c.in_ok-accounts.ensures c.args.desks.now.seen c.book.ensures.stands)
    (c.total.ensures c.args.config.now c.requires.places)
