-- The totals stand behind the lines, or nothing more was written.
use Rattle.std.proofs.Common.{◌≡◌, ◌∙◌, ◌++◌, ap, arith, length}
use Rattle.session_model.specs.Text.{closed_text}
use Rattle.caster_keep.proofs.TextLemmas.{still_torn, when_made, written_behind}
use Rattle.caster_keep.proofs.totals.write_totals.Goals as goal

pub returns-then-is_torn : goal.returns-then-is_torn
returns-then-is_torn g c = λ start lines written. still_torn _ start _ _ lines _ c.if-is_torn.true written

pub returns : goal.returns
returns g c = λ start lines written.
    let told = closed_text c.args.config.now c.args.closed.now in
    let made : c.closed_text.new.out.items ≡ c.args.text.items ++ told =
    when_made c.closed_text.result _ (c.closed_text.ensures.room
    (omega (arith, ap length c.requires.empty, c.args.text.ok.0, c.requires.room))) c.closed_text.ensures.ok in
    written_behind c.write.result _ _ start _ _ _ _ lines _ _ c.if-is_torn.false c.is_err-is_torn.ensures.value
    (c.deref.ensures.value ∙ made ∙ ap (λ l. l ++ told) c.requires.empty) written
    c.write.ensures.whole c.write.ensures.torn c.write.ensures.cause c.write.ensures.unharmed
