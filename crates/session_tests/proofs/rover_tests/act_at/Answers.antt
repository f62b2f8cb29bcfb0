use Rattle.std.proofs.lemmas.Result.{on_ok_weaker}
use Rattle.turn_log.specs.Desks.{desk_seen}
use Rattle.turn_log.proofs.HistoryLaws.{goes_both}
use Rattle.session_tests.proofs.rover_tests.act_at.Goals as goal

pub returns-in_ok-caller-in-Publishes-clause-goes : goal.returns-in_ok-caller-in-Publishes-clause-goes
returns-in_ok-caller-in-Publishes-clause-goes c =
    on_ok_weaker c.call_as-in-Publishes.result
    (goes_both 3 (desk_seen c.args.desk.now) _ (desk_seen c.call_as-in-Publishes.new.desk)
    c.in_ok-caller-in-Publishes.ensures.goes) c.call_as-in-Publishes.ensures.goes

pub returns-in_ok-caller-in-Releases-clause-goes : goal.returns-in_ok-caller-in-Releases-clause-goes
returns-in_ok-caller-in-Releases-clause-goes c =
    on_ok_weaker c.call_as-in-Releases.result
    (goes_both 3 (desk_seen c.args.desk.now) _ (desk_seen c.call_as-in-Releases.new.desk)
    c.in_ok-caller-in-Releases.ensures.goes) c.call_as-in-Releases.ensures.goes
