-- The lines of the mountpoints, that of the workers, and the last.
use Rattle.std.proofs.Common.{refl}
use Rattle.keep_porter.proofs.SayLemmas.{said_end}
use Rattle.keep_porter.proofs.saying.say.Goals as goal

pub returns-clause-said : goal.returns-clause-said
returns-clause-said g c =
    let said = c.say_mounts.ensures.said in (
      record { busy = c.args.busy; found = said.0 },
      refl,
      said.1,
      said.2,
      said.3,
      said_end c.args.by c.args.busy c.args.config.now said.0 c.now_workers_line.result c.now_end_line.result _ _ _ _
          said.4 c.now_workers_line.ensures c.put.ensures.put c.now_end_line.ensures c.put-2.ensures.put,
    )
