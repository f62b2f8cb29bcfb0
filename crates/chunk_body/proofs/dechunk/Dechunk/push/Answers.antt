-- The reading after the byte, and what the answer says of all bytes so far.
use Rattle.std.proofs.Common.{◌≡◌, ℕ, List, [], ◌∷◌, ◌++◌, ap, ◌∙◌, sym, subst, arith}
use Rattle.chunk_body.specs.Machine.{Reading, read, after}
use Rattle.chunk_body.specs.declared.dechunk.Step.{Step}
use Rattle.chunk_body.specs.Answer.{answer, given_by, plain_of}
use Rattle.chunk_body.specs.Text.{IsPlain}
use Rattle.chunk_body.proofs.ReadingLemmas.{Answers, read_more, answered, plain_more, gives_more, taken_more, exactly_open, exactly_done, exactly_bad}
use Rattle.chunk_body.proofs.dechunk.Dechunk.push.Goals as goal

-- what the answer to one more byte says
answer_says : (r : Reading) (byte : ℕ) (t : List ℕ) (a : Step) → a ≡ answer r byte → r ≡ read t
    → Answers (t ++ byte ∷ []) a
answer_says r byte t a is same =
    subst (λ (s : Step). Answers (t ++ byte ∷ []) s)
    (sym (is ∙ ap (λ (q : Reading). answer q byte) same))
    (answered t byte)

pub returns-clause-taken : goal.returns-clause-taken
returns-clause-taken c =
    omega (arith, ap (λ (r : Reading). r.taken) c.take.ensures.reading, taken_more c.args.self.now c.args.byte)

pub returns-clause-read : goal.returns-clause-read
returns-clause-read c text stands =
    c.take.ensures.reading
    ∙ ap (λ (r : Reading). after r c.args.byte) stands
    ∙ read_more text c.args.byte

pub returns-clause-goes_on : goal.returns-clause-goes_on
returns-clause-goes_on c text stands =
    exactly_open _ c.take.result
    (answer_says c.args.self.now c.args.byte text c.take.result c.take.ensures.answer stands)

pub returns-clause-done : goal.returns-clause-done
returns-clause-done c text stands =
    exactly_done _ c.take.result
    (answer_says c.args.self.now c.args.byte text c.take.result c.take.ensures.answer stands)

pub returns-clause-bad : goal.returns-clause-bad
returns-clause-bad c text place stands =
    exactly_bad _ c.take.result place
    (answer_says c.args.self.now c.args.byte text c.take.result c.take.ensures.answer stands)

pub returns-clause-plain : goal.returns-clause-plain
returns-clause-plain c text content stands is =
    let same : c.take.result ≡ answer (read text) c.args.byte =
    c.take.ensures.answer ∙ ap (λ (r : Reading). answer r c.args.byte) stands
    in
    subst (λ (a : Step). IsPlain (text ++ c.args.byte ∷ []) (content ++ given_by a)) (sym same)
    (plain_more text content c.args.byte is)

pub returns-clause-gives : goal.returns-clause-gives
returns-clause-gives c text stands =
    let same : c.take.result ≡ answer (read text) c.args.byte =
    c.take.ensures.answer ∙ ap (λ (r : Reading). answer r c.args.byte) stands
    in
    gives_more text c.args.byte
    ∙ ap (λ (a : Step). plain_of text ++ given_by a) (sym same)
