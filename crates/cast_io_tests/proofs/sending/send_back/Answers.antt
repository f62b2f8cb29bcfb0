-- Each read adds a step, and each write of what it gave adds the bytes.
use Rattle.std.proofs.Common.{◌++◌, [], ◌∷◌, take, refl, subst, sym, inr, arith, length-append}
use Rattle.cast_io.specs.declared.steps.Step.TheVariants as took
use Rattle.cast_io.specs.declared.link.Got.TheVariants as got
use Rattle.cast_io_tests.specs.Copying.{Copied, bytes_given}
use Rattle.cast_io_tests.proofs.CopyLemmas.{exchanged_next, copied_read, copied_bytes, copied_torn}
use Rattle.cast_io_tests.proofs.sending.send_back.Goals.{in-Bytes+in-Ok, in-Idle}
use Rattle.cast_io_tests.proofs.sending.send_back.Goals as goal

pub returns-in_default-clause-err : goal.returns-in_default-clause-err
returns-in_default-clause-err g c =
    let so_far = c.loop.invariant in
    let torn = copied_torn _ _ _ _ so_far.taken c.in-Bytes.count c.read.new.buf _ so_far.copied
    c.in-Bytes.ensures.read c.in_default.ensures.written in (
      so_far.taken ++ took.Bytes (take c.in-Bytes.count c.read.new.buf) ∷ [],
      took.WriteFailed,
      torn.0,
      torn.1,
      torn.2,
    )

pub returns-in-End-clause-ok : goal.returns-in-End-clause-ok
returns-in-End-clause-ok g c =
    let so_far = c.loop.invariant in (
      so_far.taken ++ took.End ∷ [],
      copied_read _ _ _ so_far.taken got.End c.read.new.buf so_far.copied c.in-End.ensures.read refl,
      inr (so_far.taken, refl),
    )

pub returns-in-Failed-clause-err : goal.returns-in-Failed-clause-err
returns-in-Failed-clause-err g c =
    let so_far = c.loop.invariant in (
      so_far.taken,
      took.ReadFailed,
      bytes_given so_far.taken,
      exchanged_next _ _ _ so_far.taken got.Failed c.read.new.buf so_far.copied
          c.in-Failed.ensures.read,
      refl,
    )

pub loop-preserved : goal.loop-preserved
loop-preserved g c =
    let told = g.L.Link.told in
    let so_far = c.loop.invariant in
    let start = told c.args.link.now in
    elim c.match-read.branch [
      | in-Bytes+in-Ok w ↦
          let step = took.Bytes (take w.in-Bytes.count c.read.new.buf) in record {
            taken = so_far.taken ++ step ∷ [];
            copied = subst (λ link. Copied start (told link) (so_far.taken ++ step ∷ []))
                (sym w.link-is)
                (copied_bytes _ _ _ _ so_far.taken w.in-Bytes.count c.read.new.buf _ so_far.copied
                w.in-Bytes.ensures.read w.in-Ok.ensures.written);
            count = omega (arith, so_far.count, length-append so_far.taken (step ∷ []));
          }
      | in-Idle w ↦ record {
        taken = so_far.taken ++ took.Idle ∷ [];
        copied = subst (λ link. Copied start (told link) (so_far.taken ++ took.Idle ∷ []))
            (sym w.link-is)
            (subst (λ now. Copied start now (so_far.taken ++ took.Idle ∷ []))
            (sym w.rest.ensures)
            (copied_read _ _ _ so_far.taken got.Idle c.read.new.buf so_far.copied
            w.in-Idle.ensures.read refl));
        count = omega (arith, so_far.count, length-append so_far.taken (took.Idle ∷ []));
      }
    ]
