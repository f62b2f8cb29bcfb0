-- The first word, the words, and the end.
use Rattle.std.proofs.Common.{◌∙◌, ◌++◌, List, ℕ, ap}
use Rattle.std.specs.Prelude.{codes}
use Rattle.caster_press.specs.Lines.{text_of}
use Rattle.keep_lines.specs.Words.{led, texts_in}
use Rattle.keep_lines.proofs.WordLemmas.{line_pieces}
use Rattle.keep_lines.proofs.words.now_line.Goals as goal

pub returns : goal.returns
returns c =
    let words = texts_in c.args.words.now in
    line_pieces (codes "now") words c.put_words.new.draft (text_of c.finish.result)
    (c.put_words.ensures.text ∙ ap (λ (l : List ℕ). l ++ led words) (c.put_text.ensures.text ∙ ap (λ (l : List ℕ). l ++ codes "now") c.new-draft.ensures)) c.finish.ensures
