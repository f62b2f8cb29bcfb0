use Rattle.std.proofs.Common.{eqb, ap, ◌∙◌, refl}
use Rattle.std.specs.List.{slice_split}
use Rattle.cast_text.proofs.SplitLemmas.{split_alone, split_front}
use Rattle.session_script.proofs.parts.split_part.Goals as goal

pub returns-in-None : goal.returns-in-None
returns-in-None c = split_alone (λ b. eqb b 32) c.args.text.now c.in-None.ensures.none

pub returns-in-Some : goal.returns-in-Some
returns-in-Some c =
    ap (slice_split (λ b. eqb b 32)) c.in-Some.ensures.found
    ∙ split_front (λ b. eqb b 32) c.in-Some.part.now 32 c.in-Some.rest.now c.in-Some.ensures.free refl
