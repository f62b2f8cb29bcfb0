use Rattle.std.proofs.Common.{arith}
use Rattle.session_model.specs.Text.{connection_lines}
use Rattle.session_text.proofs.TextLemmas.{flat_more}
use Rattle.session_text.proofs.report_lines.push_connections.Goals as goal

pub loop-told-preserved : goal.loop-told-preserved
loop-told-preserved c =
    flat_more (connection_lines c.args.config.now) c.args.connections.now c.loop-told.told-index c.told-item.result c.told-item.is
    (omega (arith, c.loop-told-test.true)) c.args.out.now.items c.loop-told.out.items c.push_connection.new.out.items
    c.loop-told.invariant c.in_ok-push_connection.ensures.ok
