use Rattle.std.proofs.Common.{◌≡◌, ◌++◌, List, ℕ, sym, ap, ◌∙◌, subst, take, arith, append-nil}
use Rattle.std.specs.Prelude.{Vec}
use Rattle.std.specs.Global.{Global}
use Rattle.std.proofs.lemmas.List.{take_all}
use Rattle.chunk_body.specs.Answer.{given_by}
use Rattle.chunk_body.specs.Machine.{read}
use Rattle.chunk_body.specs.Text.{HasEnded, IsBadAt}
use Rattle.chunk_body.specs.declared.dechunk.Step.{Step}
use Rattle.examples.proofs.BodyLemmas.{appends_further, none_given, text_further}
use Rattle.examples.proofs.bodies.decode.Goals as goal
use Rattle.examples.proofs.bodies.decode.Goals.{in-Byte+in_ok-push, in_default}

abbrev items : Vec ℕ Global → List ℕ
items bytes = bytes.items

pub loop-byte-preserved : goal.loop-byte-preserved
loop-byte-preserved c =
    let bytes = c.args.bytes.now in
    let i = c.loop-byte.byte-index in
    let before = c.loop-byte.invariant in
    let pushed = c.push-last.ensures in
    let step = c.push-last.result in
    let out = c.loop-byte.out.items in
    let added : c.match-last.out.items ≡ out ++ given_by step = elim c.match-last.branch [
      | in-Byte+in_ok-push w ↦ ap items w.out-is
          ∙ w.in_ok-push.ensures.items
          ∙ ap (λ (s : Step). out ++ given_by s) (sym w.in-Byte.is)
      | in_default w ↦ ap items w.out-is
          ∙ sym (append-nil out)
          ∙ ap (λ (l : List ℕ). out ++ l) (sym (none_given step w.in_default.not-Byte))
    ] in
    let last : c.match-last.last ≡ step = elim c.match-last.branch [
      | in-Byte+in_ok-push w ↦ w.last-is ∙ sym w.in-Byte.is
      | in_default w ↦ w.last-is
    ] in
    record {
      taken = omega (arith, pushed.taken, before.taken);
      reads = λ text is. pushed.read _ (before.reads text is)
          ∙ ap read (text_further text bytes i c.loop-byte-test.true);
      appends = appends_further c.args.reader.now c.loop-byte.reader bytes i step c.args.out.now.items
          c.loop-byte.out.items c.match-last.out.items c.loop-byte-test.true before.appends before.reads
          pushed.gives added;
      ended = λ text is done.
          subst (λ (l : List ℕ). HasEnded l) (text_further text bytes i c.loop-byte-test.true)
          ((pushed.done _ (before.reads text is)).0 (sym last ∙ done));
      bad = λ text place is at.
          subst (λ (l : List ℕ). IsBadAt l place) (text_further text bytes i c.loop-byte-test.true)
          ((pushed.bad _ place (before.reads text is)).0 (sym last ∙ at));
    }

pub returns-clause-ended : goal.returns-clause-ended
returns-clause-ended c = λ text is done.
    let whole : take c.loop-byte.byte-index c.args.bytes.now ≡ c.args.bytes.now = take_all _ _ (omega arith) in
    subst (λ (l : List ℕ). HasEnded (text ++ l)) whole (c.loop-byte.invariant.ended text is done)

pub returns-clause-bad : goal.returns-clause-bad
returns-clause-bad c = λ text place is at.
    let whole : take c.loop-byte.byte-index c.args.bytes.now ≡ c.args.bytes.now = take_all _ _ (omega arith) in
    subst (λ (l : List ℕ). IsBadAt (text ++ l) place) whole (c.loop-byte.invariant.bad text place is at)
