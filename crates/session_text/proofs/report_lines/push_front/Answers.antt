use Rattle.std.proofs.Common.{◌∙◌, ◌++◌, ℕ, [], ◌∷◌, ap}
use Rattle.std.specs.Prelude.{codes}
use Rattle.std.specs.Fmt.{decimal}
use Rattle.session_model.specs.Text.{ending_words, line}
use Rattle.session_text.proofs.TextLemmas.{two_pieces}
use Rattle.session_text.proofs.report_lines.push_front.Goals as goal

pub returns-clause-ok : goal.returns-clause-ok
returns-clause-ok c =
    let first = line (codes "connection" ∷ decimal c.args.told.now.number ∷ ending_words
    c.args.told.now.receipt.ending) in
    two_pieces c.args.out.now.items c.push_first.new.out.items c.push_words.new.out.items first
    (line (codes "junk" ∷ decimal c.from.result ∷ [])) c.in_ok-push_first.ensures.ok c.in_ok-push_words.ensures.ok
    ∙ ap (λ (n : ℕ). c.args.out.now.items ++ (first ++ line (codes "junk" ∷ decimal n ∷ []))) c.from.ensures
