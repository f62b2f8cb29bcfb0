-- Two words, and those of the ending.
use Rattle.std.proofs.Common.{◌∙◌, ◌++◌, ℕ, ap}
use Rattle.std.proofs.lemmas.Result.{on_ok_weaker}
use Rattle.std.specs.Prelude.{codes}
use Rattle.std.specs.Fmt.{decimal}
use Rattle.session_text.proofs.TextLemmas.{ending_pieces}
use Rattle.session_text.proofs.report_lines.push_first.Goals as goal

pub returns-clause-ok : goal.returns-clause-ok
returns-clause-ok c =
    let one = c.extend_from_slice.new.self.items in
    on_ok_weaker c.push_ending.result (λ appended.
    ending_pieces c.args.out.now.items one c.push_decimal.new.out.items c.extend_from_slice-2.new.self.items
    c.push_ending.new.out.items (codes "connection") (decimal c.args.number) c.args.ending
    c.in_ok-extend_from_slice.ensures.items
    (c.in_ok-push_decimal.ensures.ok ∙ ap (λ (n : ℕ). one ++ decimal n) c.from.ensures)
    c.in_ok-extend_from_slice-2.ensures.items appended) c.push_ending.ensures.ok
