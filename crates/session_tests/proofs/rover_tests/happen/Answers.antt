use Rattle.std.proofs.Common.{arith}
use Rattle.std.proofs.lemmas.Result.{on_ok_weaker}
use Rattle.turn_log.specs.Desks.{desk_seen, desk_shape}
use Rattle.rover_session.proofs.DeskLemmas.{served_by_one}
use Rattle.session_tests.proofs.rover_tests.happen.Goals as goal

pub returns-else-mount-desks-clause-served : goal.returns-else-mount-desks-clause-served
returns-else-mount-desks-clause-served c =
    on_ok_weaker c.act_at.result
    (λ goes. served_by_one desk_shape desk_seen c.args.desks.now c.in-Source.mount c.index-desks-mount.result
    c.act_at.new.desk c.args.rover.now 3 (omega arith) c.requires.me c.act_at.ensures.shape goes
    c.requires.served) c.act_at.ensures.goes
