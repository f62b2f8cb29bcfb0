-- The lines of the receipt were put.
use Rattle.std.proofs.Common.{subst}
use Rattle.keep_lines.specs.declared.told.Who.{Who}
use Rattle.keep_lines.specs.Lines.{receipt_lines}
use Rattle.keep_lines.specs.Puts.{HasTold}
use Rattle.caster_keep.proofs.one_link.tell_receipt.Goals as goal

pub returns-clause-put : goal.returns-clause-put
returns-clause-put g c =
    let told = g.P.AtPress.told in
    subst (λ (who : Who). HasTold c.args.by
    (receipt_lines c.args.config.now c.args.number who c.args.served.now.receipt)
    (told c.args.place.now).seen (told c.put_receipt.new.place).seen) c.whose-who.ensures
    c.put_receipt.ensures.put
