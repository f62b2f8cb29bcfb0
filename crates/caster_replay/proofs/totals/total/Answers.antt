use Rattle.std.proofs.Common.{◌∙◌, ℕ, suc, List, ap, subst}
use Rattle.std.proofs.lemmas.List.{length-map}
use Rattle.turn_log.specs.History.{IsLegal}
use Rattle.caster_accounts.specs.History.{fits}
use Rattle.caster_accounts.specs.Kept.{Keeps}
use Rattle.cast_config.specs.declared.config.Account.{Account}
use Rattle.session_model.specs.Setting.{caps}
use Rattle.caster_replay.specs.Caster.{DesksValue}
use Rattle.caster_replay.proofs.SumLemmas.{total_is}
use Rattle.caster_replay.proofs.totals.total.Goals as goal

pub returns : goal.returns
returns g c = λ config places.
    let same = c.desks.view_is in
    c.total_of_all.ensures c.args.desks.now.seen.book
    (subst (λ (v : DesksValue). Keeps c.value.result.now v.seen.book) same c.value.ensures.stands)
    ∙ total_is c.args.desks.now.seen (caps config) config.account
    (ap suc (length-map config.account (λ (account : Account). account.cap)))
    (subst (λ (b : List ℕ). IsLegal (fits b) c.args.desks.now.seen.book) places.book
    (subst (λ (v : DesksValue). IsLegal (fits v.book) v.seen.book) same c.desks.inside.places.book.legal))
