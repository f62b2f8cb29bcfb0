-- Fewer words than two are none, and more than four are none but of a fetch.
use Rattle.std.proofs.Common.{◌<◌, ◌≤◌, refl, sym, subst, ℕ}
use Rattle.std.proofs.lemmas.List.{length-map}
use Rattle.caster_top.specs.Command.{texts}
use Rattle.caster_top.proofs.WordLemmas.{few_words, many_words}
use Rattle.caster_top.proofs.command.command_in.Goals as goal

pub returns-in-empty : goal.returns-in-empty
returns-in-empty c =
    few_words (texts c.args.words.now)
    (subst (λ (n : ℕ). n < 2) (sym (length-map c.args.words.now _)) c.in-empty.len_below)

pub returns-in-len5-up : goal.returns-in-len5-up
returns-in-len5-up c =
    many_words (texts c.args.words.now) _ refl
    (subst (λ (n : ℕ). 5 ≤ n) (sym (length-map c.args.words.now _)) c.in-len5-up.len_at_least) c.requires.fetch
