use Rattle.std.proofs.Common.{◌≡◌, ◌+◌, ◌*◌, ◌/◌, ◌%◌, ◌∷◌, map}
use Rattle.std.specs.List.{range_with_len}
use Rattle.session_make.specs.Draws.{state_after, drawn}
use Rattle.session_make.proofs.framing.draw_payload.Given as goal

abbrev pub invariant-loop : goal.invariant-loop
invariant-loop l = record {
  items : l.payload.items ≡ (l.number / 16) ∷ (l.number % 16 * 16)
      ∷ map (λ i. drawn l.fn.draws.state i 256) (range_with_len 2 l.counter);
  state : l.draws.state ≡ state_after (l.counter + 2) l.fn.draws.state;
}
