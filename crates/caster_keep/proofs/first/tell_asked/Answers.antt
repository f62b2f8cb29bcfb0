-- A line more was put, or none was to be.
use Rattle.std.proofs.Common.{◌∙◌, sym, ap}
use Rattle.std.specs.Option.{option_copied}
use Rattle.caster_keep.proofs.KeepLemmas.{asked_before, asked_now, asks_nothing}
use Rattle.caster_keep.proofs.first.tell_asked.Goals as goal

pub returns-then-was_told-clause-put : goal.returns-then-was_told-clause-put
returns-then-was_told-clause-put g c = λ config before held sheet was on still told.
    asked_before config c.args.teller.number before (option_copied c.args.asked) held c.args.teller.by sheet _
    (sym was ∙ c.if-was_told.true) on told

pub returns-in_default-clause-put : goal.returns-in_default-clause-put
returns-in_default-clause-put g c = λ config before held sheet was on still told.
    asks_nothing config c.args.teller.number before (option_copied c.args.asked) held c.args.teller.by sheet _
    (sym was ∙ c.if-was_told.false) (ap option_copied c.in_default.is) told

pub returns-clause-put : goal.returns-clause-put
returns-clause-put g c = λ config before held sheet was on still told.
    asked_now config c.args.teller.number before (option_copied c.args.asked) c.in-Some.asked.now held
    c.asked_line.result c.args.teller.by sheet _ _ (sym was ∙ c.if-was_told.false) (ap option_copied c.in-Some.is) still
    c.asked_line.ensures c.put.ensures.put told
