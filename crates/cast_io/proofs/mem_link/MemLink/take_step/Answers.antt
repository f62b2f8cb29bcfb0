-- A read that gives bytes comes to the end of its step, or fills the buffer.
use Rattle.std.proofs.Common.{◌≡◌, drop, ap, sym, subst, List, ◌∙◌, ◌+◌, ◌∷◌, length, nat_lt, IsTrue, length-drop, arith, rules}
use Rattle.cast_io.specs.declared.steps.LinkStep.{LinkStep}
use Rattle.cast_io.specs.declared.steps.LinkStep.TheVariants.{Bytes}
use Rattle.cast_io.specs.FakeLinks.{is_within, without, steps_left}
use Rattle.cast_io.proofs.StepLemmas.{takes_whole, takes_part}
use Rattle.cast_io.proofs.mem_link.MemLink.take_step.Goals as goal

pub returns-then-self-count-clause-left : goal.returns-then-self-count-clause-left
returns-then-self-count-clause-left c =
    let more = drop (c.self.inside.place + 1) c.self.inside.given.items in
    let here : drop c.self.inside.place c.self.inside.given.items ≡ c.in-Some.step.now ∷ more =
    subst (λ (list : List LinkStep). drop c.self.inside.place list
    ≡ c.in-Some.step.now ∷ drop (c.self.inside.place + 1) list)
    c.deref-2.ensures.value c.in-Some.ensures.1 in
    let bytes-is : c.in-Some.step.now ≡ Bytes c.as_slice-bytes.result.now = search rules in
    takes_whole _ _ more c.self.inside.offset _ c.as_slice-bytes.result.now _
    (ap steps_left (sym c.self.view_is)
    ∙ ap (without c.self.inside.offset) (here ∙ ap (λ s. s ∷ more) bytes-is))
    (search rules)
    c.copy_from-count.ensures.count
    c.copy_from-count.ensures.front
    (omega (arith, c.if-self-count.true))

pub returns-else-self-count-clause-left : goal.returns-else-self-count-clause-left
returns-else-self-count-clause-left c =
    let more = drop (c.self.inside.place + 1) c.self.inside.given.items in
    let here : drop c.self.inside.place c.self.inside.given.items ≡ c.in-Some.step.now ∷ more =
    subst (λ (list : List LinkStep). drop c.self.inside.place list
    ≡ c.in-Some.step.now ∷ drop (c.self.inside.place + 1) list)
    c.deref-2.ensures.value c.in-Some.ensures.1 in
    let bytes-is : c.in-Some.step.now ≡ Bytes c.as_slice-bytes.result.now = search rules in
    let within : IsTrue (nat_lt c.self.inside.offset (length c.as_slice-bytes.result.now)) =
    subst (λ (list : List LinkStep). IsTrue (is_within list c.self.inside.offset))
    (here ∙ ap (λ s. s ∷ more) bytes-is) c.self.invariant.1 in
    takes_part _ _ more c.self.inside.offset _ c.as_slice-bytes.result.now _
    (ap steps_left (sym c.self.view_is)
    ∙ ap (without c.self.inside.offset) (here ∙ ap (λ s. s ∷ more) bytes-is))
    (ap (without _) (here ∙ ap (λ s. s ∷ more) bytes-is))
    c.copy_from-count.ensures.count
    c.copy_from-count.ensures.front
    (grind (arith, within, length-drop c.self.inside.offset c.as_slice-bytes.result.now))
