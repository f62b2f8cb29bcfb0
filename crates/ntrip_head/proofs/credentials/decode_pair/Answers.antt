use Rattle.std.proofs.Common.{◌∙◌, arith, ap, refl, subst, sym, length, List, ℕ, Ok}
use Rattle.ntrip_head.specs.declared.request.Auth.{Auth}
use Rattle.ntrip_head.specs.Credentials.{user_and_password, decoded_pair}
use Rattle.ntrip_head.specs.Outcome.{Gives}
use Rattle.ntrip_head.proofs.Base64Lemmas.{length_decoded}
use Rattle.ntrip_head.proofs.credentials.decode_pair.Goals as goal

pub user_and_password-requires : goal.user_and_password-requires
user_and_password-requires c =
    omega (
      arith,
      ap (λ (bytes : List ℕ). length bytes) c.deref.ensures.value,
      length_decoded c.args.encoded.now
          c.in-Ok.pair.items (c.in-Ok.ensures.exact (refl, refl)),
    )

pub returns-in-Ok : goal.returns-in-Ok
returns-in-Ok c =
    subst (λ (auth : Auth). Gives c.user_and_password.result (Ok auth))
    (ap user_and_password c.deref.ensures.value ∙ ap decoded_pair (sym c.in-Ok.ensures.ok))
    c.user_and_password.ensures
