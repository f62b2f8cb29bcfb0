-- A byte of the body more.
use Rattle.std.proofs.Common.{◌≡◌, ◌∙◌, ◌+◌, [], ◌∷◌, ◌++◌, Some, None, take, drop, get_or, true, subst, refl, arith}
use Rattle.std.proofs.lemmas.List.{take_all}
use Rattle.ntrip_fetch.specs.Stages.{IsAtBody, BodyIs}
use Rattle.ntrip_fetch.proofs.WritingLemmas.{on_err}
use Rattle.ntrip_fetch.proofs.BodyLemmas.{left_now, is_none, one_within, torn_within}
use Rattle.ntrip_fetch.proofs.body.take_chunked.Goals as goal

pub returns-in_err-left-clause-torn : goal.returns-in_err-left-clause-torn
returns-in_err-left-clause-torn g c =
    on_err c.from_residual.result _ (λ start text x.
    let bytes = c.args.bytes.now in
    let i = c.loop-byte.byte-index in
    let byte = get_or bytes i 0 in
    torn_within start _ c.args.most true ((text ++ take i bytes) ++ byte ∷ []) (drop (i + 1) bytes) (text ++ bytes)
    (one_within text bytes i byte c.loop-byte-test.true refl).1
    (c.in_err-left.ensures.torn start (text ++ take i bytes) (c.loop-byte.invariant.took start text x)))

pub returns-then-is_some-clause-took : goal.returns-then-is_some-clause-took
returns-then-is_some-clause-took g c = λ start text x.
    let bytes = c.args.bytes.now in
    let i = c.loop-byte.byte-index in
    let byte = get_or bytes i 0 in
    left_now start _ c.args.most (Some c.take_byte.new.chunks) c.take_byte.new.cutter
    ((text ++ take i bytes) ++ byte ∷ []) (drop (i + 1) bytes) (text ++ bytes) c.take_byte.new.count c.in_ok-left.left
    (cc) (one_within text bytes i byte c.loop-byte-test.true refl).1
    (c.in_ok-left.ensures.took start (text ++ take i bytes) (c.loop-byte.invariant.took start text x))

pub loop-byte-preserved : goal.loop-byte-preserved
loop-byte-preserved g c =
    let bytes = c.args.bytes.now in
    let i = c.loop-byte.byte-index in
    let byte = get_or bytes i 0 in
    let none : c.in_ok-left.left ≡ None = is_none c.in_ok-left.left cc in
    let open_ = c.in_ok-left.ensures.goes_on none in record {
      few = omega (arith, c.loop-byte.invariant.few, c.take_byte.ensures.few.0, c.loop-byte-test.true);
      read = omega (arith, c.loop-byte.invariant.read, c.take_byte.ensures.few.1, c.loop-byte-test.true);
      fewer = open_.0;
      waits = open_.1;
      took = λ start text x.
          subst (λ l. IsAtBody start (g.O.Sink.taken c.take_byte.new.out) c.args.most (Some c.take_byte.new.chunks)
          c.take_byte.new.cutter l c.take_byte.new.count)
          (one_within text bytes i byte c.loop-byte-test.true refl).0
          (subst (BodyIs start (g.O.Sink.taken c.take_byte.new.out) c.args.most (Some c.take_byte.new.chunks)
          c.take_byte.new.cutter ((text ++ take i bytes) ++ byte ∷ []) c.take_byte.new.count) none
          (c.in_ok-left.ensures.took start (text ++ take i bytes) (c.loop-byte.invariant.took start text x)));
      unharmed = c.in_ok-left.ensures.sink.unharmed ∙ c.loop-byte.invariant.unharmed;
    }

pub returns-clause-took : goal.returns-clause-took
returns-clause-took g c = λ start text x.
    let bytes = c.args.bytes.now in
    let i = c.loop-byte.byte-index in
    let all : take i bytes ≡ bytes = take_all i bytes (omega (arith, c.loop-byte-test.false)) in
    subst (λ l. IsAtBody start (g.O.Sink.taken c.loop-byte.out) c.args.most (Some c.loop-byte.chunks) c.loop-byte.cutter
    (text ++ l) c.loop-byte.count) all (c.loop-byte.invariant.took start text x)
