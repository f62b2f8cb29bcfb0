-- A byte of a chunked body more.
use Rattle.std.proofs.Common.{◌≡◌, ◌∙◌, [], ◌∷◌, ◌++◌, Some, sym, subst, refl, arith}
use Rattle.std.proofs.lemmas.List.{append-nil}
use Rattle.chunk_body.specs.Answer.{plain_of}
use Rattle.ntrip_fetch.specs.Writing.{IsWriting, HasWritten, IsTorn, wanted}
use Rattle.ntrip_fetch.proofs.WritingLemmas.{on_err, writing_fed, written_now, written_all}
use Rattle.ntrip_fetch.proofs.BodyLemmas.{now_is}
use Rattle.ntrip_fetch.proofs.body.take_byte.Goals as goal

pub returns-in_err-write_ready-in-Byte-clause-torn : goal.returns-in_err-write_ready-in-Byte-clause-torn
returns-in_err-write_ready-in-Byte-clause-torn g c =
    on_err c.from_residual.result _ (λ start text x.
    subst (λ l. IsTorn start (g.O.Sink.taken c.write_ready.new.out) (wanted c.args.most l))
    (sym (c.in-Byte.ensures.gives text x.goes_on.0))
    (c.in_err-write_ready-in-Byte.ensures.torn start (plain_of text ++ c.in-Byte.data ∷ [])
    (writing_fed start _ (plain_of text) (plain_of text ++ c.in-Byte.data ∷ []) c.args.cutter.now
    c.push-in-Byte.new.self
    c.args.count.now (λ given gave. c.push-in-Byte.ensures.stands given (plain_of text) gave) x.writing)))

pub returns-in_ok-write_ready-in-Byte-clause-took : goal.returns-in_ok-write_ready-in-Byte-clause-took
returns-in_ok-write_ready-in-Byte-clause-took g c = λ start text x.
    let now = g.O.Sink.taken c.write_ready.new.out in
    let wrote = c.in_ok-write_ready-in-Byte.ensures in
    let writing : IsWriting start now (plain_of (text ++ c.args.byte ∷ [])) c.write_ready.new.cutter
    c.write_ready.new.count =
    subst (λ l. IsWriting start now l c.write_ready.new.cutter c.write_ready.new.count)
    (sym (c.in-Byte.ensures.gives text x.goes_on.0))
    (wrote.writing start (plain_of text ++ c.in-Byte.data ∷ [])
    (writing_fed start _ (plain_of text) (plain_of text ++ c.in-Byte.data ∷ []) c.args.cutter.now
    c.push-in-Byte.new.self
    c.args.count.now (λ given gave. c.push-in-Byte.ensures.stands given (plain_of text) gave) x.writing)) in
    now_is start now c.args.most (Some c.push.new.self) c.write_ready.new.cutter (text ++ c.args.byte ∷ [])
    c.write_ready.new.count c.enough_at.result c.enough_at.ensures.enough c.enough_at.ensures.fewer wrote.within
    (c.in-Byte.ensures.read text x.goes_on.0, (c.in-Byte.ensures.goes_on text x.goes_on.0).0 refl)
    (λ less. writing) wrote.waits
    (written_now start now (plain_of (text ++ c.args.byte ∷ [])) c.write_ready.new.cutter c.write_ready.new.count
    c.args.most writing wrote.waits wrote.within)

pub returns-in-Done-clause-took : goal.returns-in-Done-clause-took
returns-in-Done-clause-took g c = λ start text x.
    let same : plain_of text ≡ plain_of (text ++ c.args.byte ∷ []) =
    sym (c.in-Done.ensures.gives text x.goes_on.0 ∙ append-nil (plain_of text)) in record {
      wrote = subst (λ l. HasWritten start (g.O.Sink.taken c.args.out.now) (wanted c.args.most l) c.args.count.now) same
          (written_all start _ (plain_of text) c.args.cutter.now c.args.count.now c.args.most x.writing x.waits
          (omega (arith, x.fewer)));
      why = (x.fewer, (c.in-Done.ensures.done text x.goes_on.0).0 refl);
    }

pub returns-in-Bad-clause-took : goal.returns-in-Bad-clause-took
returns-in-Bad-clause-took g c = λ start text x.
    let same : plain_of text ≡ plain_of (text ++ c.args.byte ∷ []) =
    sym (c.in-Bad.ensures.gives text x.goes_on.0 ∙ append-nil (plain_of text)) in record {
      wrote = subst (λ l. HasWritten start (g.O.Sink.taken c.args.out.now) (wanted c.args.most l) c.args.count.now) same
          (written_all start _ (plain_of text) c.args.cutter.now c.args.count.now c.args.most x.writing x.waits
          (omega (arith, x.fewer)));
      why = (x.fewer, (c.in-Bad.ensures.bad text c.in-Bad.at x.goes_on.0).0 refl);
    }
