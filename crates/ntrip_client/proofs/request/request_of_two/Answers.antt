use Rattle.std.proofs.Common.{◌∙◌}
use Rattle.ntrip_client.proofs.RequestLemmas.{request_two_is}
use Rattle.ntrip_client.proofs.request.request_of_two.Goals as goal

pub returns : goal.returns
returns c =
    c.in_ok-text.ensures
    ∙ request_two_is c.args.mount.now c.bytes.result.now c.args.address.now c.bytes-2.result.now c.deref.result.now _
    c.bytes.ensures.value c.bytes-2.ensures.value (c.deref.ensures.value ∙ c.in_ok-credentials.ensures)
