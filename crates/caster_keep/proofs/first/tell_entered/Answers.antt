-- A line more was put, or none was to be.
use Rattle.std.proofs.Common.{◌∙◌, sym, ap}
use Rattle.std.specs.Prelude.{is_some}
use Rattle.caster_keep.proofs.KeepLemmas.{told_now}
use Rattle.caster_keep.proofs.first.tell_entered.Goals as goal

pub returns-clause-put : goal.returns-clause-put
returns-clause-put g c = λ texts sheet on told.
    told_now c.args.config.now c.args.teller.number c.args.before c.args.now c.in-Some.entered c.entered_line.result
    c.args.teller.by texts sheet _ _
    (ap is_some (sym c.entered_of.ensures) ∙ sym c.is_some.ensures ∙ c.if-is_some.false)
    (sym c.entered_of-2.ensures ∙ c.in-Some.is) c.entered_line.ensures c.put.ensures.put told
