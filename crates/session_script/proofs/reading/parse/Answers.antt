use Rattle.std.proofs.Common.{length, ◌≤◌, arith}
use Rattle.std.specs.Prelude.{sum_by}
use Rattle.std.proofs.lemmas.Result.{IfOk-weaker}
use Rattle.session_script.specs.Script.{IsSession, input_length}
use Rattle.session_script.proofs.SessionLemmas.{IsScript, IsScript-result}
use Rattle.session_script.proofs.reading.parse.Goals as goal

pub returns-clause-session : goal.returns-clause-session
returns-clause-session c =
    IfOk-weaker c.events_of.result (λ events. IsScript c.args.kind c.args.bytes.now events.items)
    (λ events. IsSession c.args.kind events.items)
    (λ events script. script.session)
    (IsScript-result c.args.kind c.args.bytes.now c.events_of.result c.events_of.ensures)

pub returns-clause-small : goal.returns-clause-small
returns-clause-small c =
    IfOk-weaker c.events_of.result (λ events. IsScript c.args.kind c.args.bytes.now events.items)
    (λ events. length c.args.bytes.now ≤ 8388608)
    (λ events script. script.small)
    (IsScript-result c.args.kind c.args.bytes.now c.events_of.result c.events_of.ensures)

pub returns-clause-events : goal.returns-clause-events
returns-clause-events c =
    IfOk-weaker c.events_of.result (λ events. IsScript c.args.kind c.args.bytes.now events.items)
    (λ events. length events.items ≤ length c.args.bytes.now)
    (λ events script. let fits = script.fits in omega arith)
    (IsScript-result c.args.kind c.args.bytes.now c.events_of.result c.events_of.ensures)

pub returns-clause-input : goal.returns-clause-input
returns-clause-input c =
    IfOk-weaker c.events_of.result (λ events. IsScript c.args.kind c.args.bytes.now events.items)
    (λ events. sum_by input_length events.items ≤ length c.args.bytes.now)
    (λ events script. let fits = script.fits in omega arith)
    (IsScript-result c.args.kind c.args.bytes.now c.events_of.result c.events_of.ensures)
