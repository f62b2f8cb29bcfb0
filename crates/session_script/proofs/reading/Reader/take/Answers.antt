use Rattle.session_script.proofs.ReadLemmas.{goes_on_skipped, goes_on_stop, goes_on_event, fails_there}
use Rattle.session_script.proofs.reading.Reader.take.Goals as goal

pub returns-in-Ok-Skipped-clause-goes : goal.returns-in-Ok-Skipped-clause-goes
returns-in-Ok-Skipped-clause-goes c lines =
    let r = c.args.self.now in
    let read = rw c.in-Ok-Skipped.field-0-is at c.in-Ok-Skipped.ensures in
    goes_on_skipped r.kind r.line r.connections c.args.line.now lines r.events.items read

pub returns-in-Ok-Stop-clause-goes : goal.returns-in-Ok-Stop-clause-goes
returns-in-Ok-Stop-clause-goes c lines =
    let r = c.args.self.now in
    let read = rw c.in-Ok-Stop.field-0-is at c.in-Ok-Stop.ensures in
    goes_on_stop r.kind r.line r.connections c.args.line.now lines r.events.items read

pub returns-in_ok-push-in-Ok-Happens-clause-goes : goal.returns-in_ok-push-in-Ok-Happens-clause-goes
returns-in_ok-push-in-Ok-Happens-clause-goes c lines =
    let r = c.args.self.now in
    let read = rw c.in-Ok-Happens.field-0-is at c.in-Ok-Happens.ensures in
    goes_on_event r.kind r.line r.connections c.follow.new.self c.args.line.now lines r.events.items
    c.push.new.self.items c.in-Ok-Happens.event read
    c.in_ok-follow-in-Ok-Happens.ensures c.in_ok-push-in-Ok-Happens.ensures.items

pub returns-in-Err-clause-fails : goal.returns-in-Err-clause-fails
returns-in-Err-clause-fails c lines =
    let r = c.args.self.now in
    fails_there r.kind r.line r.connections c.args.line.now lines r.events.items c.in-Err.fault c.in-Err.ensures
