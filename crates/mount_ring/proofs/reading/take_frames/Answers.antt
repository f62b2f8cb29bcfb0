use Rattle.std.proofs.Common.{◌+◌, ◌∙◌, sym, subst, ℕ}
use Rattle.type_filter.specs.Permitted.{permits}
use Rattle.mount_ring.proofs.TakingLemmas.{Takes, takes_taken, takes_skipped}
use Rattle.mount_ring.proofs.reading.take_frames.Goals as goal
use Rattle.mount_ring.proofs.reading.take_frames.Goals.{then-permits, else-permits}

pub loop-left-preserved : goal.loop-left-preserved
loop-left-preserved c =
    elim c.if-permits.branch [
      | then-permits w ↦
          subst (λ (n : ℕ). Takes (permits c.args.filter.now) c.args.frames.now.items c.args.from c.args.budget
          (c.loop-left.index + 1) n c.if-permits.out) (sym w.left-is)
          (takes_taken (permits c.args.filter.now) c.args.frames.now.items c.args.from c.args.budget c.loop-left.index
          c.loop-left.left
          c.loop-left.out c.if-permits.out c.in-Some.frame.now c.loop-left.invariant c.loop-left-test.true
          (sym c.in-Some.ensures)
          (sym c.permits.ensures ∙ w.if-permits.true) (w.out-is ∙ w.push.ensures))
      | else-permits w ↦
          subst (λ (n : ℕ). Takes (permits c.args.filter.now) c.args.frames.now.items c.args.from c.args.budget
          (c.loop-left.index + 1) n c.if-permits.out) (sym w.left-is)
          (subst (λ out. Takes (permits c.args.filter.now) c.args.frames.now.items c.args.from c.args.budget
          (c.loop-left.index + 1) c.loop-left.left out) (sym w.out-is)
          (takes_skipped (permits c.args.filter.now) c.args.frames.now.items c.args.from c.args.budget
          c.loop-left.index c.loop-left.left
          c.loop-left.out c.in-Some.frame.now c.loop-left.invariant c.loop-left-test.true (sym c.in-Some.ensures)
          (sym c.permits.ensures ∙ w.if-permits.false)))
    ]
