use Rattle.std.proofs.Common.{◌≤◌, length, drop, ap, ap₂, ◌∙◌, arith}
use Rattle.std.proofs.lemmas.List.{length-take}
use Rattle.rtcm_frame.specs.Pending.{Pending}
use Rattle.rtcm_frame.proofs.HeldLemmas.{passed_over}
use Rattle.rtcm_frame.proofs.PendingLemmas.{pending_of}
use Rattle.rtcm_frame.proofs.stream.Cutter.skip.Goals as goal

pub returns : goal.returns
returns c =
    let held = c.self.inside in
    let same = ap (λ (p : Pending). length p.bytes) c.self.view_is in
    let fits : c.args.count ≤ held.len =
    omega (arith, c.requires, same, length-take held.len (drop held.start held.buffer))
    in
    ap₂ pending_of (
    passed_over held.buffer held.start held.len c.args.count fits
    ∙ ap (λ (p : Pending). drop c.args.count p.bytes) c.self.view_is) (
    ap (λ (p : Pending). p.junk) c.self.view_is)
