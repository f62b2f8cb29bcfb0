-- What a caster came to has a total for each mountpoint and a sum for each account, and is told by
-- its text.
use Rattle.std.proofs.Common.{ℕ, refl, subst}
use Rattle.caster_serve.specs.Caster.{HasServed}
use Rattle.caster_serve.proofs.WholeLemmas.{refused_at_once}
use Rattle.caster_top.specs.Casting.{no_memory}
use Rattle.caster_top.proofs.CastingLemmas.{cast_served, closed_sizes}
use Rattle.caster_top.proofs.casting_answers.answer_to_server.Goals as goal

pub answer_to_served-requires-clause-sizes : goal.answer_to_served-requires-clause-sizes
answer_to_served-requires-clause-sizes g c = λ closed is. closed_sizes _ _ _ _ _ _ closed is c.serve-served.ensures.served

pub returns-clause-cast : goal.returns-clause-cast
returns-clause-cast g c =
    cast_served _ _ _ _ _ _ c.answer_to_served.result
    (subst (λ (n : ℕ). HasServed c.args.config.now c.args.addr.now n (g.N.Street.told c.args.street.now)
    (g.N.Street.told c.serve-served.new.street) c.serve-served.result) c.from.ensures c.serve-served.ensures.served)
    c.answer_to_served.ensures

pub returns-in_default-clause-cast : goal.returns-in_default-clause-cast
returns-in_default-clause-cast g c =
    (no_memory, refused_at_once c.args.config.now c.args.addr.now c.args.limit _, refl)
