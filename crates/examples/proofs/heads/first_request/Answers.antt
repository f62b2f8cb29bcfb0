use Rattle.std.proofs.Common.{rules, ◌≡◌, ◌++◌, List, ℕ, take, Ok, Err, Some, None, IfNone, IfSome, length, Option, Result, inl, inr, ap, ◌∙◌, subst}
use Rattle.std.proofs.lemmas.Result.{err_from_is_err_and}
use Rattle.ntrip_head.specs.declared.buffer.HeadEnd.{HeadEnd}
use Rattle.ntrip_head.specs.declared.buffer.HeadEnd.TheVariants.{Whole, Long}
use Rattle.ntrip_head.specs.declared.fault.HeadError.{HeadError}
use Rattle.ntrip_head.specs.declared.request.Request.{Request}
use Rattle.ntrip_head.specs.Answer.{HeadAnswer}
use Rattle.ntrip_head.specs.Ends.{IsEndOf}
use Rattle.ntrip_head.specs.Head.{IsHead, IsLong, IsOpen}
use Rattle.ntrip_head.specs.Outcome.{UnlessMemory}
use Rattle.examples.proofs.HeadLemmas.{long_front, open_whole, refused_for}
use Rattle.examples.proofs.heads.first_request.Goals as goal
use Rattle.examples.proofs.heads.first_request.Goals.{in_default-Some-Long-via-in-Some+in-Long-1, in_default-Some-Long-via-in-None-1}

pub returns-in_default-Some-Whole-clause-some : goal.returns-in_default-Some-Whole-clause-some
returns-in_default-Some-Whole-clause-some c =
    let bytes = c.args.bytes.now in
    let count = c.read.result.0 in
    let answer = c.in_default-Some-Whole.answer in
    let request = c.in_ok-answer-in_default-Some-Whole.field-0 in
    let front : c.read.new.self ≡ take count bytes =
    c.read.ensures.bytes ∙ ap (λ (l : List ℕ). l ++ take count bytes) c.in_ok-head.ensures.empty in
    let is : c.read.result.1 ≡ Some (Whole answer) = search rules in
    let was : answer ≡ Ok request = search rules in
    let ended = subst (λ (e : Option HeadEnd). IfSome e (IsEndOf c.read.new.self)) is c.read.ensures.ends in
    let told = subst (λ (a : Result Request HeadError). UnlessMemory a (HeadAnswer c.read.new.self)) was ended.1 in
    subst (λ (l : List ℕ). IsHead l × HeadAnswer l (Ok request)) front (ended.0, told)

pub returns-in_err-answer-in_default-Some-Whole-clause-refused : goal.returns-in_err-answer-in_default-Some-Whole-clause-refused
returns-in_err-answer-in_default-Some-Whole-clause-refused c =
    let bytes = c.args.bytes.now in
    let count = c.read.result.0 in
    let answer = c.in_default-Some-Whole.answer in
    let front : c.read.new.self ≡ take count bytes =
    c.read.ensures.bytes ∙ ap (λ (l : List ℕ). l ++ take count bytes) c.in_ok-head.ensures.empty in
    let is : c.read.result.1 ≡ Some (Whole answer) = search rules in
    let ended = subst (λ (e : Option HeadEnd). IfSome e (IsEndOf c.read.new.self)) is c.read.ensures.ends in
    let exit = c.from_residual-in_err-answer-in_default-Some-Whole in
    let p = err_from_is_err_and exit.result exit.ensures.1 in
    let was : answer ≡ Err p.0 = search rules in
    rw p.1 (λ fault because.
    let both = subst (λ (l : List ℕ). IsHead l × HeadAnswer l (Err fault)) front
    (ended.0, refused_for c.read.new.self answer p.0 fault was because ended.1) in
    (count, both.0, both.1))

pub returns-clause-none : goal.returns-clause-none
returns-clause-none c =
    let bytes = c.args.bytes.now in
    let count = c.read.result.0 in
    let front : c.read.new.self ≡ take count bytes =
    c.read.ensures.bytes ∙ ap (λ (l : List ℕ). l ++ take count bytes) c.in_ok-head.ensures.empty in
    elim c.in_default-Some-Long-1.branch [
      | in_default-Some-Long-via-in-Some+in-Long-1 w ↦
          let is : c.read.result.1 ≡ Some Long = search rules in
          let ended = subst (λ (e : Option HeadEnd). IfSome e (IsEndOf c.read.new.self)) is c.read.ensures.ends in
          inr (long_front bytes count c.read.ensures.within (subst (λ (l : List ℕ). IsLong l) front ended))
      | in_default-Some-Long-via-in-None-1 w ↦
          let is : c.read.result.1 ≡ None = search rules in
          let all = subst (λ (e : Option HeadEnd). IfNone e (count ≡ length bytes)) is c.read.ensures.all in
          let goes = subst (λ (e : Option HeadEnd). IfNone e (IsOpen c.read.new.self)) is c.read.ensures.goes_on in
          inl (open_whole bytes count all (subst (λ (l : List ℕ). IsOpen l) front goes))
    ]
