use Rattle.std.proofs.Common.{ℕ, List, Option, Bor, sym, ap, ◌∙◌}
use Rattle.std.specs.Option.{option_map}
use Rattle.session_script.specs.Line.{event_of_line, event_of_parts}
use Rattle.session_script.proofs.PartLemmas.{three_parts, too_many_parts, some_mapped}
use Rattle.session_script.proofs.line.event_of_line.Goals as goal

pub returns-then-is_some : goal.returns-then-is_some
unfolding event_of_line
returns-then-is_some c =
    let first = rw c.in_default-Some.is-1 at c.split_part.ensures in
    let second = rw (c.in_default-Some.rest-is, c.in-Some-value.is) at c.split_part-2.ensures in
    let more : Option (List ℕ) = option_map (λ (rest : Bor (List ℕ)). rest.now) c.split_part-3.result.1 in
    let whole = three_parts c.args.line.now c.split_part.result.0.now c.in_default-Some.rest.now
    c.split_part-2.result.0.now c.in-Some-value.value.now c.split_part-3.result.0.now more first second
    c.split_part-3.ensures in
    sym (ap (event_of_parts c.args.kind) whole
    ∙ too_many_parts c.args.kind c.split_part.result.0.now c.split_part-2.result.0.now c.split_part-3.result.0.now more
    (some_mapped (λ (rest : Bor (List ℕ)). rest.now) c.split_part-3.result.1
    (sym c.is_some.ensures ∙ c.if-is_some.true)))
