-- A frame more was written, or its write failed.
use Rattle.std.proofs.Common.{◌∙◌, [], ◌∷◌, ◌++◌, arith, subst, sym}
use Rattle.rtcm_frame.specs.Pending.{Gave}
use Rattle.ntrip_fetch.proofs.WritingLemmas.{on_err, writing_one, torn_one}
use Rattle.ntrip_fetch.proofs.frames.write_ready.Goals as goal

pub returns-in_err-write-clause-torn : goal.returns-in_err-write-clause-torn
returns-in_err-write-clause-torn g c =
    on_err c.from_residual.result _ (λ start bytes before.
    torn_one start _ _ bytes c.bytes.result.now c.loop-count.cutter c.next.new.self c.loop-count.count c.args.most
    (λ given gave. subst (λ frame. Gave (given ++ frame ∷ []) bytes c.next.new.self) (sym c.bytes.ensures.value)
    (c.in-Some.ensures.gave given bytes gave)) c.in_err-write.ensures.torn c.loop-count-test.true
    (c.loop-count.invariant.writing start bytes before))

pub loop-count-preserved : goal.loop-count-preserved
loop-count-preserved g c = record {
  few = omega (arith, c.loop-count.invariant.few, c.in-Some.ensures.found.counted);
  within = omega (arith, c.loop-count-test.true);
  writing = λ start bytes before.
      writing_one start _ _ bytes c.bytes.result.now c.loop-count.cutter c.next.new.self c.loop-count.count
      (λ given gave. subst (λ frame. Gave (given ++ frame ∷ []) bytes c.next.new.self) (sym c.bytes.ensures.value)
      (c.in-Some.ensures.gave given bytes gave))
      c.in_ok-write.ensures.whole (c.loop-count.invariant.writing start bytes before);
  unharmed = c.in_ok-write.ensures.unharmed ∙ c.loop-count.invariant.unharmed;
}
