-- The number of the link, the words up to the ending, the ending, and whether it was settled.
use Rattle.std.proofs.Common.{◌∙◌, [], ◌∷◌, ◌++◌, List, ℕ, ap}
use Rattle.std.specs.Prelude.{codes}
use Rattle.std.specs.Fmt.{decimal}
use Rattle.caster_press.specs.Lines.{text_of}
use Rattle.session_model.specs.Text.{ending_words, line}
use Rattle.keep_lines.specs.Lines.{link_word, settled_words}
use Rattle.keep_lines.specs.Words.{led, text_in}
use Rattle.keep_lines.proofs.WordLemmas.{three_pieces}
use Rattle.keep_lines.proofs.lines.end_line.Goals as goal

pub returns : goal.returns
returns c =
    let link = link_word c.args.link in
    let told = c.args.receipt.now in
    let front : List ℕ → List (List ℕ) = λ who. codes "end" ∷ who ∷ decimal told.sent ∷ decimal told.overrun ∷ decimal told.junk ∷ [] in
    let words = front (text_in c.who_word.result) in
    let mid = ending_words told.ending in
    let back = settled_words told.settled in
    three_pieces link words mid back c.put_words.new.draft c.put_ending.new.draft c.put_settled.new.draft (text_of c.finish.result)
    (c.put_words.ensures.text ∙ ap (λ (l : List ℕ). l ++ led words) c.begin-draft.ensures.text)
    c.put_ending.ensures.text c.put_settled.ensures.text c.finish.ensures
    ∙ ap (λ (who : List ℕ). line (link ∷ (front who ++ (mid ++ back)))) c.who_word.ensures.value
