-- By how the body comes.
use Rattle.std.proofs.Common.{◌++◌, Option, sym, subst, arith}
use Rattle.std.specs.Prelude.{is_some}
use Rattle.chunk_body.specs.Machine.{Reading}
use Rattle.source_session.specs.Body.{payload}
use Rattle.ntrip_fetch.specs.Writing.{IsTorn, wanted}
use Rattle.ntrip_fetch.specs.Stages.{IsAtBody}
use Rattle.ntrip_fetch.proofs.WritingLemmas.{on_err_so}
use Rattle.ntrip_fetch.proofs.BodyLemmas.{holds_few, read_few}
use Rattle.ntrip_fetch.proofs.body.take_body.Goals as goal

pub take_chunked-requires-clause-few : goal.take_chunked-requires-clause-few
take_chunked-requires-clause-few g c =
    let few = c.requires.few in
    omega (arith, holds_few few.0 _ _ c.args.body.now.chunks c.args.body.now.cutter few.1 _ few.2, few.3)

pub take_chunked-requires-clause-read : goal.take_chunked-requires-clause-read
take_chunked-requires-clause-read g c =
    let few = c.requires.few in
    omega (
      arith,
      read_few few.0 (g.O.Sink.taken c.args.out.now) c.args.most c.in-Some.chunks c.args.body.now.cutter few.1
          c.args.count.now
          (subst (λ (chunks : Option Reading). IsAtBody few.0 (g.O.Sink.taken c.args.out.now) c.args.most chunks
          c.args.body.now.cutter few.1 c.args.count.now) c.in-Some.is few.2),
      few.3,
    )

pub returns-in-None-clause-torn : goal.returns-in-None-clause-torn
returns-in-None-clause-torn g c =
    on_err_so c.take_plain.result _ _ (λ told start text x.
    subst (λ (chunks : Option Reading). IsTorn start (g.O.Sink.taken c.take_plain.new.out)
    (wanted c.args.most (payload (is_some chunks) (text ++ c.args.bytes.now)))) (sym c.in-None.is)
    (told start text (subst (λ (chunks : Option Reading). IsAtBody start (g.O.Sink.taken c.args.out.now) c.args.most
    chunks
    c.args.body.now.cutter text c.args.count.now) c.in-None.is x))) c.take_plain.ensures.torn

pub returns-in-Some-clause-torn : goal.returns-in-Some-clause-torn
returns-in-Some-clause-torn g c =
    on_err_so c.take_chunked.result _ _ (λ told start text x.
    subst (λ (chunks : Option Reading). IsTorn start (g.O.Sink.taken c.take_chunked.new.out)
    (wanted c.args.most (payload (is_some chunks) (text ++ c.args.bytes.now)))) (sym c.in-Some.is)
    (told start text (subst (λ (chunks : Option Reading). IsAtBody start (g.O.Sink.taken c.args.out.now) c.args.most
    chunks
    c.args.body.now.cutter text c.args.count.now) c.in-Some.is x))) c.take_chunked.ensures.torn
