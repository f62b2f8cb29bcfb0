use Rattle.ntrip_head.proofs.CredentialLemmas.{to_form, from_form}
use Rattle.ntrip_head.proofs.laws.credentials_have_their_form.Goals as goal

pub returns : goal.returns
returns c = λ value user password. (to_form value user password, from_form value user password)
