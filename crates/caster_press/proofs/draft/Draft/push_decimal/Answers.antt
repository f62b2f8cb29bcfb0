-- No digit is a newline.
use Rattle.caster_press.proofs.TextLemmas.{has_newline-decimal}
use Rattle.caster_press.proofs.draft.Draft.push_decimal.Goals as goal

pub returns-clause-no_newline : goal.returns-clause-no_newline
returns-clause-no_newline c = λ is.
    let none = has_newline-decimal c.args.number c.ranges.number.fits in
    let has = (c.push.ensures.newline.0 is).1 in cc (none, has, c.format.ensures.text)
