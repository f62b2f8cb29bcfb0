use Rattle.std.proofs.Common.{◌≡◌, List, ℕ, ◌+◌, Some, None, filter_map, sym, ap, ◌∙◌, subst, arith, take, append-nil}
use Rattle.std.proofs.lemmas.List.{take_all, take_more}
use Rattle.rtcm_frame.specs.Transport.{number_of}
use Rattle.rtcm_frame.specs.Cut.{cut}
use Rattle.examples.proofs.StreamLemmas.{GaveNumbers, numbers_pushed, numbers_more, numbers_at_end, junk_at_end}
use Rattle.examples.proofs.streams.numbers_in.Goals as goal

pub loop-frame-init : goal.loop-frame-init
loop-frame-init c =
    subst (λ (all : List ℕ). GaveNumbers all c.loop-byte.numbers.items c.push.new.self)
    (sym (take_more c.args.bytes.now c.loop-byte.byte-index 0 c.loop-byte-test.true))
    (numbers_pushed _ _ _ _ _ c.loop-byte.invariant.gave c.push.ensures.stands)

pub loop-frame-preserved-in-Continue-1 : goal.loop-frame-preserved-in-Continue-1
loop-frame-preserved-in-Continue-1 c =
    subst (λ (l : List ℕ). GaveNumbers (take (c.loop-byte.byte-index + 1) c.args.bytes.now) l c.next.new.self)
    (sym c.in_ok-push.ensures.items)
    (numbers_more _ _ _ (Some c.in-Some-number.number) _ _ c.loop-frame.invariant c.in-Some-number.ensures.value
    c.in-Some.ensures.gave)

pub loop-frame-preserved : goal.loop-frame-preserved
loop-frame-preserved c =
    subst (λ (l : List ℕ). GaveNumbers (take (c.loop-byte.byte-index + 1) c.args.bytes.now) l c.next.new.self)
    (append-nil c.loop-frame.numbers.items)
    (numbers_more _ _ _ None _ _ c.loop-frame.invariant c.in_default-number.ensures.value c.in-Some.ensures.gave)

pub returns-clause-numbers : goal.returns-clause-numbers
returns-clause-numbers c =
    let whole : take c.loop-byte.byte-index c.args.bytes.now ≡ c.args.bytes.now = take_all _ _ (omega arith) in
    numbers_at_end _ _ _ c.loop-byte.invariant.gave c.loop-byte.invariant.waits
    ∙ ap (λ (l : List ℕ). filter_map number_of (cut l).frames) whole

pub returns-clause-junk : goal.returns-clause-junk
returns-clause-junk c =
    let whole : take c.loop-byte.byte-index c.args.bytes.now ≡ c.args.bytes.now = take_all _ _ (omega arith) in
    c.junk.ensures
    ∙ junk_at_end _ _ _ c.loop-byte.invariant.gave c.loop-byte.invariant.waits
    ∙ ap (λ (l : List ℕ). (cut l).junk) whole
