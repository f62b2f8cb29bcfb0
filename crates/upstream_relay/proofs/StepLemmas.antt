-- Calls at one mountpoint as steps, and the frames that they publish.
use Rattle.std.proofs.Common.{◌≡◌, ℕ, Bool, true, false, if◌then◌else◌, ◌==◌, List, [], ◌∷◌, ◌++◌, map, refl, sym, ap, subst, ◌∙◌}
use Rattle.std.proofs.lemmas.Bool.{eq-eqb}
use Rattle.turn_log.specs.Heard.{calls_in}
use Rattle.mount_ring.specs.declared.RingCall.{RingCall}
use Rattle.mount_ring.specs.declared.RingCall.TheVariants.{Publish}
use Rattle.mount_ring.specs.declared.RingAnswer.{RingAnswer}
use Rattle.session_calls.specs.Steps.{Step, at_ring, to_ring, ring_part, on_ring}
use Rattle.session_calls.specs.Plans.{IsMade, IsBegun}
use Rattle.source_session.specs.Calls.{publishes}
use Rattle.upstream_relay.specs.Owed.{publishing}

-- ---- steps at a mountpoint

abbrev pub steps_of : ℕ → List (RingCall × RingAnswer) → List Step
steps_of mount pairs = map (λ p. at_ring mount p.0 p.1) pairs

if_same : (b : Bool) (p : RingCall × RingAnswer) → b ≡ true → (if b then p ∷ [] else []) ≡ p ∷ []
if_same true p is = refl
if_same false p is = absurd cc

pub one_on_ring : (mount : ℕ) (call : RingCall) (answer : RingAnswer)
    → ring_part mount (at_ring mount call answer) ≡ (call, answer) ∷ []
one_on_ring mount call answer = if_same (mount == mount) (call, answer) (eq-eqb mount mount refl)

pub on_ring_of : (mount : ℕ) (pairs : List (RingCall × RingAnswer)) → on_ring mount (steps_of mount pairs) ≡ pairs
on_ring_of mount [] = refl
on_ring_of mount (p ∷ pairs) =
    ap (λ l. l ++ on_ring mount (steps_of mount pairs)) (one_on_ring mount p.0 p.1)
    ∙ ap (λ l. p ∷ l) (on_ring_of mount pairs)

-- ---- frames that are published

pub pairs_made : (mount claim : ℕ) (frames : List (List ℕ)) (pairs : List (RingCall × RingAnswer))
    → calls_in pairs ≡ publishes claim frames → IsMade (publishing mount claim frames) (steps_of mount pairs)
pairs_made mount claim [] [] is = refl
pairs_made mount claim [] (p ∷ pairs) is = absurd cc
pairs_made mount claim (frame ∷ frames) [] is = absurd cc
pairs_made mount claim (frame ∷ frames) (p ∷ pairs) is =
    let call : p.0 ≡ Publish claim frame = cc in
    let rest : calls_in pairs ≡ publishes claim frames = cc in
    (ap (to_ring mount) call, pairs_made mount claim frames pairs rest)

pub pairs_begun : (mount claim : ℕ) (frames : List (List ℕ)) (pairs : List (RingCall × RingAnswer))
    (unmade : List RingCall) → publishes claim frames ≡ calls_in pairs ++ unmade
    → IsBegun (publishing mount claim frames) (steps_of mount pairs)
pairs_begun mount claim frames [] unmade is = tt
pairs_begun mount claim [] (p ∷ pairs) unmade is = absurd cc
pairs_begun mount claim (frame ∷ frames) (p ∷ pairs) unmade is =
    let call : p.0 ≡ Publish claim frame = cc in
    let rest : publishes claim frames ≡ calls_in pairs ++ unmade = cc in
    (ap (to_ring mount) call, pairs_begun mount claim frames pairs unmade rest)

pub publishing_made : (mount claim : ℕ) (first second : List (List ℕ)) (a b : List Step)
    → IsMade (publishing mount claim first) a → IsMade (publishing mount claim second) b
    → IsMade (publishing mount claim (first ++ second)) (a ++ b)
publishing_made mount claim [] second a b made more =
    subst (λ (l : List Step). IsMade (publishing mount claim second) (l ++ b)) (sym made) more
publishing_made mount claim (frame ∷ first) second [] b made more = absurd made
publishing_made mount claim (frame ∷ first) second (step ∷ a) b made more =
    (made.0, publishing_made mount claim first second a b made.1 more)

pub publishing_begun : (mount claim : ℕ) (first second : List (List ℕ)) (a b : List Step)
    → IsMade (publishing mount claim first) a → IsBegun (publishing mount claim second) b
    → IsBegun (publishing mount claim (first ++ second)) (a ++ b)
publishing_begun mount claim [] second a b made more =
    subst (λ (l : List Step). IsBegun (publishing mount claim second) (l ++ b)) (sym made) more
publishing_begun mount claim (frame ∷ first) second [] b made more = absurd made
publishing_begun mount claim (frame ∷ first) second (step ∷ a) b made more =
    (made.0, publishing_begun mount claim first second a b made.1 more)

-- what begins the frames begins more of them
pub publishing_longer : (mount claim : ℕ) (first second : List (List ℕ)) (a : List Step)
    → IsBegun (publishing mount claim first) a → IsBegun (publishing mount claim (first ++ second)) a
publishing_longer mount claim first second [] begun = tt
publishing_longer mount claim [] second (step ∷ a) begun = absurd begun
publishing_longer mount claim (frame ∷ first) second (step ∷ a) begun =
    (begun.0, publishing_longer mount claim first second a begun.1)
