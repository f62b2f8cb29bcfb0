use Rattle.std.proofs.Common.{◌∙◌}
use Rattle.ntrip_client.proofs.RequestLemmas.{request_one_is}
use Rattle.ntrip_client.proofs.request.request_of_one.Goals as goal

pub returns : goal.returns
returns c =
    c.in_ok-text.ensures
    ∙ request_one_is c.args.mount.now c.bytes.result.now c.deref.result.now _ c.bytes.ensures.value
    (c.deref.ensures.value ∙ c.in_ok-credentials.ensures)
