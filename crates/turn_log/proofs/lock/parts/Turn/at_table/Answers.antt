-- A new object is in the slot, and no ticket was drawn.
use Rattle.std.proofs.Common.{[], ◌∷◌, None, sym, ap, subst}
use Rattle.atomic_table.specs.Table.{opening}
use Rattle.turn_log.specs.declared.lock.rule.Held.{Held}
use Rattle.turn_log.specs.LockRule.{Kept, maker}
use Rattle.turn_log.proofs.LockSeats.{opens}
use Rattle.turn_log.proofs.lock.parts.Turn.at_table.Goals as goal

pub new-requires : goal.new-requires
new-requires g c =
    let passes = c.args.passes in
    let z = g.V.Played.shape c.of.result.value in
    let held : Held g.row.V.Denot g.row.V-Call.Denot = record { value = c.args.value; last = None } in
    let is = c.of.ensures in
    let first = opens passes g.V.Played.stands g.V.Played.shape g.V.Played.fits z held c.requires.new
    (ap g.V.Played.shape (sym is)) c.ranges.passes.fits in
    subst (λ value. Kept passes g.V.Played.stands g.V.Played.shape g.V.Played.fits z
    (opening (0 ∷ 0 ∷ []) c.in_ok-slots.slots.items (maker value passes))) (sym is)
    (subst (λ l. Kept passes g.V.Played.stands g.V.Played.shape g.V.Played.fits z
    (opening (0 ∷ 0 ∷ []) l (maker c.args.value passes))) (sym c.in_ok-slots.ensures) first)
