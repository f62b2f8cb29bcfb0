use Rattle.config_table.proofs.TableLemmas.{mount_step}
use Rattle.config_table.proofs.table.push_mounts.Goals as goal

pub loop-i-preserved : goal.loop-i-preserved
loop-i-preserved c =
    mount_step c.args.config.now c.loop-i.i c.as_slice-mounts.result.now _ _ _ _ c.index-mounts-i.result
    c.loop-i-test.true c.index-mounts-i.is c.in_ok-record.ensures c.in_ok-push.ensures.items c.loop-i.invariant
