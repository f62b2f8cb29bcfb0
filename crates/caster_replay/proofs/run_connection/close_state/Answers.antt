use Rattle.std.proofs.Common.{◌≡◌, ◌∙◌, Bool, true, false, refl, sym, subst}
use Rattle.std.specs.Prelude.{not}
use Rattle.caster_replay.specs.declared.run_connection.State.{State}
use Rattle.caster_replay.specs.declared.run_connection.State.TheVariants.{Closed}
use Rattle.caster_replay.specs.RunConnections.{ClosedAt}
use Rattle.caster_replay.proofs.run_connection.close_state.Goals as goal

settled_so : (b : Bool) → not b ≡ false → b ≡ true
settled_so true same = refl
settled_so false same = absurd cc

pub returns-else-is_halt-clause-closed : goal.returns-else-is_halt-clause-closed
returns-else-is_halt-clause-closed g c = λ config places.
    subst (λ (s : State). ClosedAt config c.args.desks.now.seen c.close-receipt.new.self.seen c.args.last s
    (Closed c.close-receipt.result)) (sym c.in-Open.is) (
      c.close-receipt.result,
      refl,
      settled_so c.close-receipt.result.settled c.if-not-receipt.false,
      sym c.is_halt.ensures ∙ c.if-is_halt.false,
      c.close-receipt.ensures.closed config places,
    )
