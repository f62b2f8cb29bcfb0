use Rattle.cast_config.proofs.ServedLemmas.{filters_more}
use Rattle.cast_config.proofs.served.all_filters.Goals as goal

pub loop-m-preserved : goal.loop-m-preserved
loop-m-preserved c = filters_more c.args.groups.now c.loop-m.m _ _ _ c.in_ok-push.ensures.items c.loop-m.invariant
    c.in_ok-filters.ensures
