-- A block of the body more.
use Rattle.std.proofs.Common.{◌≡◌, ◌∙◌, ◌+◌, ◌-◌, ℕ, List, ◌++◌, take, drop, length, ap, subst, arith, append_assoc, ◌≤◌, length-drop, length-append, length-take-le}
use Rattle.std.proofs.lemmas.List.{take-append-drop, take_all, take_rest}
use Rattle.rtcm_frame.specs.Pending.{Pending}
use Rattle.rtcm_frame.proofs.PendingLemmas.{fed_front}
use Rattle.ntrip_fetch.specs.Writing.{IsWriting, HasWritten, IsTorn, wanted}
use Rattle.ntrip_fetch.proofs.WritingLemmas.{on_err, writing_fed, written_now, written_enough, torn_more}
use Rattle.ntrip_fetch.proofs.frames.write_plain.Goals as goal

-- a body up to some place, with a block of what is left
up_to : (body bytes : List ℕ) (at count : ℕ)
    → (body ++ take at bytes) ++ take count (take (length bytes - at) (drop at bytes)) ≡ body ++ take (at + count) bytes
up_to body bytes at count =
    append_assoc body (take at bytes) (take count (take (length bytes - at) (drop at bytes)))
    ∙ ap (λ l. body ++ l) (fed_front bytes at count)

-- all of it
whole : (body bytes : List ℕ) (at : ℕ) → (body ++ take at bytes) ++ drop at bytes ≡ body ++ bytes
whole body bytes at =
    append_assoc body (take at bytes) (drop at bytes) ∙ ap (λ l. body ++ l) (take-append-drop at bytes)

-- how many bytes are left
left : (bytes : List ℕ) (at : ℕ) → length (take (length bytes - at) (drop at bytes)) ≡ length bytes - at
left bytes at = ap length (take_rest bytes at) ∙ length-drop at bytes

-- a block within what is left
block : (bytes : List ℕ) (at count : ℕ) → at ≤ length bytes
    → count ≤ length (take (length bytes - at) (drop at bytes))
    → (length (take count (take (length bytes - at) (drop at bytes))) ≡ count) × (at + count ≤ length bytes)
block bytes at count reached within = (
  length-take-le count (take (length bytes - at) (drop at bytes)) within,
  omega (arith, left bytes at, reached, within),
)

pub returns-in_err-write_ready-clause-torn : goal.returns-in_err-write_ready-clause-torn
returns-in_err-write_ready-clause-torn g c =
    on_err c.from_residual.result _ (λ start body before.
    let bytes = c.args.bytes.now in
    let at = c.loop-at.at in
    let fed = c.feed-fed.result in
    let now = g.O.Sink.taken c.write_ready.new.out in
    let block = take fed (take (length bytes - at) (drop at bytes)) in
    let torn = c.in_err-write_ready.ensures.torn start ((body ++ take at bytes) ++ block)
    (writing_fed start _ (body ++ take at bytes) ((body ++ take at bytes) ++ block) c.loop-at.cutter c.feed-fed.new.self
    c.loop-at.count (λ given gave. c.feed-fed.ensures.stands given (body ++ take at bytes) gave)
    (c.loop-at.invariant.writing start body before)) in
    subst (λ l. IsTorn start now (wanted c.args.most l)) (whole body bytes (at + fed))
    (torn_more start now (body ++ take (at + fed) bytes) (drop (at + fed) bytes) c.args.most
    (subst (λ l. IsTorn start now (wanted c.args.most l)) (up_to body bytes at fed) torn)))

pub loop-at-preserved : goal.loop-at-preserved
loop-at-preserved g c =
    let bytes = c.args.bytes.now in
    let at = c.loop-at.at in
    let fed = c.feed-fed.result in record {
      reached = (block bytes at fed c.loop-at.invariant.reached c.feed-fed.ensures.within).1;
      within = c.write_ready.ensures.within;
      few =
          let size = block bytes at fed c.loop-at.invariant.reached c.feed-fed.ensures.within in
          omega (
            arith,
            c.loop-at.invariant.few,
            c.write_ready.ensures.few,
            ap (λ (p : Pending). p.junk + length p.bytes) c.feed-fed.ensures.behind,
            length-append c.loop-at.cutter.bytes (take fed (take (length bytes - at) (drop at bytes))),
            size.0,
            size.1,
          );
      waits = c.in_ok-write_ready.ensures.waits;
      writing = λ start body before.
          let block = take fed (take (length bytes - at) (drop at bytes)) in
          subst (λ l. IsWriting start (g.O.Sink.taken c.write_ready.new.out) l c.write_ready.new.cutter
          c.write_ready.new.count)
          (up_to body bytes at fed)
          (c.in_ok-write_ready.ensures.writing start ((body ++ take at bytes) ++ block)
          (writing_fed start _ (body ++ take at bytes) ((body ++ take at bytes) ++ block) c.loop-at.cutter
          c.feed-fed.new.self c.loop-at.count (λ given gave. c.feed-fed.ensures.stands given (body ++ take at bytes)
          gave)
          (c.loop-at.invariant.writing start body before)));
      unharmed = c.in_ok-write_ready.ensures.sink.unharmed ∙ c.loop-at.invariant.unharmed;
    }

pub returns-else-count-most-clause-written : goal.returns-else-count-most-clause-written
returns-else-count-most-clause-written g c = λ start body before.
    let bytes = c.args.bytes.now in
    let at = c.loop-at.at in
    let enough : c.loop-at.count ≡ c.args.most = omega (arith, c.loop-at.invariant.within, c.if-count-most.false) in
    subst (λ l. HasWritten start (g.O.Sink.taken c.loop-at.out) (wanted c.args.most l) c.loop-at.count)
    (whole body bytes at)
    (written_enough start _ (body ++ take at bytes) (drop at bytes) c.loop-at.cutter c.loop-at.count c.args.most
    (c.loop-at.invariant.writing start body before) enough)

pub returns-after-loop-at-clause-written : goal.returns-after-loop-at-clause-written
returns-after-loop-at-clause-written g c = λ start body before.
    let bytes = c.args.bytes.now in
    let at = c.loop-at.at in
    let all : take at bytes ≡ bytes = take_all at bytes (omega (arith, c.loop-at-test.false)) in
    subst (λ l. HasWritten start (g.O.Sink.taken c.loop-at.out) (wanted c.args.most (body ++ l)) c.loop-at.count) all
    (written_now start _ (body ++ take at bytes) c.loop-at.cutter c.loop-at.count c.args.most
    (c.loop-at.invariant.writing start body before) c.loop-at.invariant.waits c.loop-at.invariant.within)
