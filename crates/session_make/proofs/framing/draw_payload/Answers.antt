use Rattle.std.proofs.Common.{rules, ◌≡◌, ◌+◌, ap, ◌∙◌, arith}
use Rattle.session_make.specs.Draws.{number_below, state_after}
use Rattle.session_make.specs.Rounds.{filling}
use Rattle.session_make.proofs.DrawLemmas.{state_on, state_first, bytes_more, bytes_whole, bytes_length}
use Rattle.session_make.proofs.framing.draw_payload.Goals as goal

pub loop-init : goal.loop-init
loop-init c = record {
  items = search rules;
  state = state_on 1 2 c.args.draws.now.state c.draw-filling.new.self.state c.draw-number.new.self.state
      (state_first c.args.draws.now.state c.draw-filling.new.self.state c.draw-filling.ensures.state)
      c.draw-number.ensures.state (omega arith);
}

pub loop-preserved : goal.loop-preserved
loop-preserved c =
    let n = c.loop.counter in
    let start = c.args.draws.now.state in
    let now = c.draw-byte.new.self.state in
    record {
      items = c.in_ok-push-3.ensures.items
          ∙ bytes_more (1001 + c.draw-number.result) start n c.draw-byte.result now c.loop.payload.items
          c.loop.invariant.items c.draw-byte.ensures.number
          (state_on (n + 2) (n + 2 + 1) start c.loop.draws.state now c.loop.invariant.state
          c.draw-byte.ensures.state (omega arith));
      state = state_on (n + 2) (n + 1 + 2) start c.loop.draws.state now
          c.loop.invariant.state c.draw-byte.ensures.state (omega arith);
    }

pub returns-clause-bytes : goal.returns-clause-bytes
returns-clause-bytes c =
    let start = c.args.draws.now.state in
    let first = state_first start c.draw-filling.new.self.state c.draw-filling.ensures.state in
    let second = state_on 1 2 start c.draw-filling.new.self.state c.draw-number.new.self.state first
    c.draw-number.ensures.state (omega arith)
    in
    let filled : c.draw-filling.result ≡ filling start =
    c.draw-filling.ensures.number ∙ ap (λ s. number_below 99 s) first
    in
    bytes_whole (1001 + c.draw-number.result) start c.loop.counter c.loop.payload.items c.loop.invariant.items
    (ap (λ k. 1001 + k) (c.draw-number.ensures.number ∙ ap (λ s. number_below 229 s) second))
    (omega (arith, filled, c.loop-test.false, c.loop.auto.counter-end))

pub returns-clause-length : goal.returns-clause-length
returns-clause-length c =
    bytes_length (1001 + c.draw-number.result) c.args.draws.now.state c.loop.counter c.loop.payload.items
    c.loop.invariant.items (omega (arith, c.draw-filling.ensures.below, c.loop.auto.counter-end))

pub returns-clause-state : goal.returns-clause-state
returns-clause-state c =
    let start = c.args.draws.now.state in
    let first = state_first start c.draw-filling.new.self.state c.draw-filling.ensures.state in
    let filled : c.draw-filling.result ≡ filling start =
    c.draw-filling.ensures.number ∙ ap (λ s. number_below 99 s) first
    in
    let all : c.loop.counter ≡ filling start =
    omega (arith, filled, c.loop-test.false, c.loop.auto.counter-end)
    in
    c.loop.invariant.state ∙ ap (λ k. state_after (k + 2) start) all
