-- What was not told before is told now.
use Rattle.std.proofs.Common.{◌≡◌, ◌∙◌, Option, sym, ap, subst}
use Rattle.std.specs.Prelude.{is_some}
use Rattle.std.specs.Option.{option_copied}
use Rattle.session_core.specs.declared.asked.Asked.{Asked}
use Rattle.session_core.specs.Asking.{AsksOn}
use Rattle.session_core.specs.Holding.{HoldsOn}
use Rattle.keep_lines.specs.Puts.{HasTold}
use Rattle.caster_keep.specs.Links.{asked_lines, told_lines}
use Rattle.caster_keep.proofs.KeepLemmas.{some_copied}
use Rattle.caster_keep.proofs.first.tell_session.Goals as goal

pub returns-clause-asked : goal.returns-clause-asked
returns-clause-asked g c = c.is_some.ensures ∙ some_copied c.asks-asked.result ∙ ap is_some c.asks-asked.ensures.value

pub returns-clause-put : goal.returns-clause-put
returns-clause-put g c = λ before sheet was on holds still told.
    let is : option_copied c.asks-asked.result ≡ c.args.session.now.asked = c.asks-asked.ensures.value in
    let same = c.holds-held.ensures.value in
    subst (λ (asked : Option Asked). HasTold c.args.teller.by
    (told_lines c.args.config.now c.args.teller.number asked c.holds-held.result) sheet
    (g.P.AtPress.told c.tell_entered.new.place).seen) is
    (c.tell_entered.ensures.put (asked_lines c.args.teller.number (option_copied c.asks-asked.result)) sheet
    (subst (HoldsOn c.args.told.held) (sym same) holds)
    (c.tell_asked.ensures.put c.args.config.now before c.args.told.held sheet was
    (subst (AsksOn before) (sym is) on) (λ holding. is ∙ still holding) told))
