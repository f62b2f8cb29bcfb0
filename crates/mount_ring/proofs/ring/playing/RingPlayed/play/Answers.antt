use Rattle.std.proofs.Common.{◌<◌, ℕ, ◌^◌, ap, sym, refl, subst, arith, length}
use Rattle.mount_ring.specs.declared.call.RingCall.TheVariants.{Publish}
use Rattle.mount_ring.specs.declared.call.RingAnswer.TheVariants.{At}
use Rattle.mount_ring.specs.History.{State, state_of}
use Rattle.mount_ring.specs.Kept.{Keeps}
use Rattle.mount_ring.specs.StillFits.{one_more}
use Rattle.mount_ring.proofs.RingLemmas.{published_few, claims_few}
use Rattle.mount_ring.proofs.ring.playing.RingPlayed.play.Goals as goal

pub claim-requires : goal.claim-requires
claim-requires c =
    let h = c.requires.0 in
    (state_of h, omega (arith, claims_few h, c.requires.2), c.requires.1)

pub publish-requires : goal.publish-requires
publish-requires c =
    let h = c.requires.0 in
    (state_of h, omega (arith, published_few h, c.requires.2), c.requires.1)

pub read-requires : goal.read-requires
read-requires c =
    let h = c.requires.0 in
    (state_of h, omega (arith, published_few h, c.requires.2), c.requires.1, rw c.in-Read.is at c.requires.3)

pub returns-in-Publish-clause-played : goal.returns-in-Publish-clause-played
returns-in-Publish-clause-played c = λ h stands few fits.
    let room : length (state_of h).published < 2 ^ 63 = omega (arith, published_few h, few) in
    rw c.in-Publish.is (
      subst (λ (s : State). Keeps c.publish.new.self s)
          (sym (one_more h (c.args.me, Publish c.in-Publish.field-0 c.in-Publish.frame)))
          (c.publish.ensures.state (state_of h) room stands),
      ap (λ (n : ℕ). At n) (c.publish.ensures.place (state_of h) stands),
      refl,
    )
