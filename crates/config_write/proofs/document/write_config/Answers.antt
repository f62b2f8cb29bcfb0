use Rattle.std.proofs.Common.{◌++◌, List, ℕ, ap, ◌∙◌, string_bytes}
use Rattle.cast_config.proofs.KeptLemmas.{keeps_rules}
use Rattle.config_write.proofs.ConfigAgain.{written, versioned}
use Rattle.config_write.proofs.document.write_config.Goals as goal

pub text_of-requires : goal.text_of-requires
text_of-requires c = keeps_rules c.requires.1.0 c.args.config.now c.requires.1.2

pub returns-clause-ok : goal.returns-clause-ok
returns-clause-ok c =
    let config = c.args.config.now in
    let text = string_bytes c.in_ok-text.text in (
      text,
      c.in_ok-extend_from_slice.ensures.items ∙ ap (λ (t : List ℕ). c.args.out.now.items ++ t) c.as_bytes.ensures.value,
      written config text c.requires c.in_ok-text.ensures,
      versioned config text c.in_ok-text.ensures,
    )
