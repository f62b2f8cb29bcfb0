-- It is counted, if it is one that counts.
use Rattle.caster_serve.proofs.WorkLemmas.{tallied_by}
use Rattle.caster_serve.proofs.tally.count_receipt.Goals as goal

pub returns-then-receipt-2-clause-counted : goal.returns-then-receipt-2-clause-counted
returns-then-receipt-2-clause-counted c =
    tallied_by c.args.tally.now c.args.receipt.now _ _ c.if-receipt.true c.if-receipt-2.true c.from.ensures
    c.from-then-receipt-2.ensures
