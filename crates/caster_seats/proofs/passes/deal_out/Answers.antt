-- All passes are handed out.
use Rattle.std.proofs.Common.{◌∙◌, ◌++◌, refl, sym, ap, subst}
use lib.ListN.{get_elem?}
use Rattle.caster_seats.proofs.SharingLemmas.{AllDealt}
use Rattle.caster_seats.proofs.passes.deal_out.Goals as goal

pub hand_out-requires-clause-rings : goal.hand_out-requires-clause-rings
hand_out-requires-clause-rings c =
    subst (λ n. AllDealt n c.args.piles.items c.args.shared.now.rings.items) (sym c.requires.book.size)
    c.requires.rings

pub hand_out-requires-clause-book : goal.hand_out-requires-clause-book
hand_out-requires-clause-book c = record { size = refl; each = c.requires.book.each }

pub returns-clause-each : goal.returns-clause-each
returns-clause-each c = λ number passes at.
    let handed = c.in_ok-hand_out.ensures.handed in
    let is = handed.1 ∙ ap (λ l. l ++ handed.0) c.in_ok-list.ensures.items in
    handed.3 number passes (ap (λ l. get_elem? l number) (sym is) ∙ at)
