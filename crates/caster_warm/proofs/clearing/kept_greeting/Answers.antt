use Rattle.std.proofs.Common.{◌≡◌, sym, subst, IfNone, IfSome, None, Some}
use Rattle.last_frames.specs.Greeted.{Greeting}
use Rattle.caster_warm.proofs.PlaceLemmas.{greeting_there}
use Rattle.caster_warm.proofs.clearing.kept_greeting.Goals as goal

pub returns-in-Some-clause-none : goal.returns-in-Some-clause-none
returns-in-Some-clause-none c = λ old was.
    subst (λ (g : Greeting). IfNone c.greeting.result (g ≡ None))
    (sym (greeting_there old c.args.run.now c.rings.result.now c.args.mount c.rings.ensures.shapes_are
    c.rings.ensures.homes_are c.rings.ensures.seen_are was c.in-Some.place.now c.in-Some.ensures.lookup.3.0
    c.in-Some.ensures.lookup.1)) c.greeting.ensures.none

pub returns-in-Some-clause-some : goal.returns-in-Some-clause-some
returns-in-Some-clause-some c = λ old was.
    subst (λ (g : Greeting). IfSome c.greeting.result (λ frames. g ≡ Some frames.now))
    (sym (greeting_there old c.args.run.now c.rings.result.now c.args.mount c.rings.ensures.shapes_are
    c.rings.ensures.homes_are c.rings.ensures.seen_are was c.in-Some.place.now c.in-Some.ensures.lookup.3.0
    c.in-Some.ensures.lookup.1)) c.greeting.ensures.some
