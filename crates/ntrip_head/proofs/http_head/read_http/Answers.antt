use Rattle.std.proofs.Common.{inl}
use Rattle.ntrip_head.specs.Answer.{HttpAnswer}
use Rattle.ntrip_head.proofs.OutcomeLemmas.{told_so}
use Rattle.ntrip_head.proofs.http_head.read_http.Goals as goal

pub returns : goal.returns
returns c =
    let at = c.in-Some.ensures.found.2 in
    told_so (HttpAnswer c.args.bytes.now) c.request_of.result _ c.request_of.ensures
    (inl (c.in-Some.ensures.found.0, c.in-Some.ensures.found.1, cc (c.of-method.ensures, c.of-target.ensures, at.method, at.path, at.fields)))
