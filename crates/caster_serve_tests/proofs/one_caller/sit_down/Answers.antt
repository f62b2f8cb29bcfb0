-- The last of the passes is that of the last caller.
use Rattle.std.proofs.Common.{◌≡◌, ℕ, length, arith, subst}
use Rattle.caster_seats.specs.Sharing.{ArePassesOf}
use Rattle.caster_seats.proofs.SittingLemmas.{are_passes, front_new, last_new}
use Rattle.caster_serve_tests.proofs.one_caller.sit_down.Goals as goal

pub places-requires-clause-passes : goal.places-requires-clause-passes
places-requires-clause-passes g c κs within = (
  length c.pop.new.self.items,
  are_passes _ _ _ (last_new _ c.pop.new.self.items c.in-Some.passes _ c.in-Some.ensures.items c.requires.each),
)

pub returns-clause-each : goal.returns-clause-each
returns-clause-each g c =
    front_new _ c.pop.new.self.items c.in-Some.passes c.args.shared.now c.in-Some.ensures.items c.requires.each

pub returns-clause-fit : goal.returns-clause-fit
returns-clause-fit g c =
    let number : length c.pop.new.self.items ≡ c.len-me.result = omega (arith, c.len-me.ensures, c.pop.new.self.ok.0) in
    c.in_ok-places.ensures.fit c.len-me.result
    (subst (λ (k : ℕ). ArePassesOf k c.in-Some.passes c.args.shared.now) number
    (are_passes _ _ _ (last_new _ c.pop.new.self.items c.in-Some.passes _ c.in-Some.ensures.items c.requires.each)))
