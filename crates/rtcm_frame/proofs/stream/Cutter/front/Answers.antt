use Rattle.std.proofs.Common.{rules, ◌≤◌, length}
use Rattle.rtcm_frame.proofs.CutLemmas.{front_other}
use Rattle.rtcm_frame.proofs.stream.Cutter.front.Goals as goal

pub returns-then-waiting-clause-front : goal.returns-then-waiting-clause-front
returns-then-waiting-clause-front c =
    let some : 1 ≤ length c.args.self.now.bytes = search rules in
    let h = rw c.uncut_bytes-waiting.ensures at c.if-waiting.true in
    let is = front_other c.args.self.now.bytes some h in
    (some, is.0, is.1)
