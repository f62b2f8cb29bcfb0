-- The head ends within these bytes, or goes on.
use Rattle.std.proofs.Common.{◌≡◌, ◌∙◌, ◌-◌, ℕ, List, [], ◌++◌, length, take, drop, ap, subst, arith, length-drop}
use Rattle.std.specs.Prelude.{is_some}
use Rattle.std.proofs.lemmas.List.{take_rest}
use Rattle.ntrip_client.specs.Answer.{IsAnswer}
use Rattle.ntrip_fetch.proofs.WritingLemmas.{on_err, appends_none}
use Rattle.ntrip_client.proofs.SayingLemmas.{accepted_at, front_and_rest}
use Rattle.ntrip_fetch.proofs.StageLemmas.{body_begins, begun_is, begun_torn, refused_left}
use Rattle.ntrip_fetch.proofs.fetch_stage.decide.Goals as goal

-- the head, and all bytes behind it
whole : (old new bytes : List ℕ) (count : ℕ) → new ≡ old ++ take count bytes
    → new ++ take (length bytes - count) (drop count bytes) ≡ old ++ bytes
whole old new bytes count is =
    ap (λ l. new ++ l) (take_rest bytes count) ∙ front_and_rest old new bytes count is

pub take_body-requires : goal.take_body-requires
take_body-requires g c =
    let now = g.O.Sink.taken c.args.out.now in
    let bytes = c.args.bytes.now in
    let count = c.feed-taken.result.count in
    let size = ap length (take_rest bytes count) ∙ length-drop count bytes in record {
      few = (
        now,
        [],
        body_begins now now c.args.most c.begin-body.result.chunks c.begin-body.result.cutter c.args.count.now
            c.begin-body.ensures.begins c.begin-body.ensures.cutter
            (record { wrote = appends_none now; counted = c.requires.none }) c.requires.some,
        omega (arith, size, c.requires.few),
      );
    }

pub returns-in_err-left-in-Accepted-clause-torn : goal.returns-in_err-left-in-Accepted-clause-torn
returns-in_err-left-in-Accepted-clause-torn g c =
    on_err c.from_residual.result _ (λ start wrote.
    let bytes = c.args.bytes.now in
    let count = c.feed-taken.result.count in
    let taken = c.feed-taken.ensures in
    begun_torn start _ c.args.most c.feed-taken.new.self (take (length bytes - count) (drop count bytes))
    (c.args.head.now ++ bytes) c.in-Accepted.chunked (is_some c.begin-body.result.chunks)
    (whole c.args.head.now c.feed-taken.new.self bytes count taken.bytes)
    (accepted_at c.feed-taken.new.self c.feed-taken.result.answer c.in-Accepted.at c.in-Accepted.chunked
    c.in-Accepted.is taken.begins taken.says) c.begin-body.ensures.chunked
    (c.in_err-left-in-Accepted.ensures.torn start []
    (body_begins start _ c.args.most c.begin-body.result.chunks c.begin-body.result.cutter c.args.count.now
    c.begin-body.ensures.begins c.begin-body.ensures.cutter wrote c.requires.some)))

pub returns-in_ok-left-in-Accepted-clause-decided : goal.returns-in_ok-left-in-Accepted-clause-decided
returns-in_ok-left-in-Accepted-clause-decided g c = λ start wrote.
    let bytes = c.args.bytes.now in
    let count = c.feed-taken.result.count in
    let taken = c.feed-taken.ensures in
    begun_is start _ c.args.most c.take_body.new.body c.feed-taken.new.self
    (take (length bytes - count) (drop count bytes)) (c.args.head.now ++ bytes) c.take_body.new.count
    c.in_ok-left-in-Accepted.left c.in-Accepted.chunked
    (whole c.args.head.now c.feed-taken.new.self bytes count taken.bytes)
    (accepted_at c.feed-taken.new.self c.feed-taken.result.answer c.in-Accepted.at c.in-Accepted.chunked
    c.in-Accepted.is taken.begins taken.says) (c.take_body.ensures.same ∙ c.begin-body.ensures.chunked)
    (c.in_ok-left-in-Accepted.ensures.took start []
    (body_begins start _ c.args.most c.begin-body.result.chunks c.begin-body.result.cutter c.args.count.now
    c.begin-body.ensures.begins c.begin-body.ensures.cutter wrote c.requires.some))

pub returns-in-Refused-clause-decided : goal.returns-in-Refused-clause-decided
returns-in-Refused-clause-decided g c = λ start wrote.
    let taken = c.feed-taken.ensures in
    refused_left start _ c.args.most c.feed-taken.new.self (drop c.feed-taken.result.count c.args.bytes.now)
    (c.args.head.now ++ c.args.bytes.now) c.args.count.now c.in-Refused.refusal c.from.result
    (front_and_rest c.args.head.now c.feed-taken.new.self c.args.bytes.now c.feed-taken.result.count taken.bytes)
    (subst (IsAnswer c.feed-taken.new.self) c.in-Refused.is taken.says) c.from.ensures wrote
