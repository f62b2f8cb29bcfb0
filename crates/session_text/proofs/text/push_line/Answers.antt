use Rattle.std.proofs.Common.{ℕ, List, ◌++◌, ◌∷◌, [], ap, ◌∙◌}
use Rattle.session_model.specs.Text.{spaced}
use Rattle.session_text.proofs.TextLemmas.{line_pieces}
use Rattle.session_text.proofs.text.push_line.Goals as goal

pub returns-clause-ok : goal.returns-clause-ok
returns-clause-ok c =
    c.in_ok-end_line.ensures.ok
    ∙ ap (λ (l : List ℕ). (l ++ spaced c.args.numbers.now) ++ 10 ∷ [])
    (c.in_ok-extend_from_slice-2.ensures.items
    ∙ ap (λ (l : List ℕ). l ++ c.args.name.now) c.in_ok-extend_from_slice.ensures.items)
    ∙ line_pieces c.args.out.now.items c.args.kind.now c.args.name.now c.args.numbers.now
