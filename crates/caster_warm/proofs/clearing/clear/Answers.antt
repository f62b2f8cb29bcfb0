use Rattle.std.proofs.Common.{◌∙◌}
use Rattle.caster_warm.proofs.PlaceLemmas.{stands_cleared, was_cleared}
use Rattle.caster_warm.proofs.clearing.clear.Goals as goal

pub returns-clause-stands : goal.returns-clause-stands
returns-clause-stands c = λ config script.
    let gives = c.replace_rings-places.ensures.gives in
    let takes = c.replace_rings.ensures.takes in
    stands_cleared c.args.run.now c.replace_rings-places.new.self c.replace_rings.new.self
    c.replace_rings-places.result.items c.clear_all.new.places.items gives.shapes_are gives.seen_are takes.shapes_are
    takes.seen_are c.clear_all.ensures.shape c.clear_all.ensures.seen c.replace_rings-places.ensures.rest
    c.replace_rings.ensures.rest config script

pub returns-clause-lives : goal.returns-clause-lives
returns-clause-lives c = c.replace_rings.ensures.rest.lives ∙ c.replace_rings-places.ensures.rest.lives

pub returns-clause-cleared : goal.returns-clause-cleared
returns-clause-cleared c =
    let gives = c.replace_rings-places.ensures.gives in
    let takes = c.replace_rings.ensures.takes in
    was_cleared c.args.run.now c.replace_rings-places.new.self c.replace_rings.new.self
    c.replace_rings-places.result.items c.clear_all.new.places.items gives.shapes_are gives.seen_are takes.shapes_are
    takes.seen_are c.clear_all.ensures.shape c.clear_all.ensures.seen c.replace_rings-places.ensures.rest
    c.replace_rings.ensures.rest takes.homes_are c.clear_all.ensures.cleared
