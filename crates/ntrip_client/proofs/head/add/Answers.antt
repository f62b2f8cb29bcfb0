use Rattle.std.proofs.Common.{List, ℕ, sym, ◌∙◌, subst}
use Rattle.ntrip_client.specs.FirstLine.{SpeaksHttp}
use Rattle.ntrip_client.proofs.SayingLemmas.{open_head, http_on}
use Rattle.ntrip_client.proofs.head.add.Goals as goal

pub push-step-requires : goal.push-step-requires
push-step-requires c = open_head c.args.head.now c.requires.open

pub by_step-requires-clause-http : goal.by_step-requires-clause-http
by_step-requires-clause-http c =
    subst (λ (l : List ℕ). SpeaksHttp l) (sym (c.bytes.ensures ∙ c.push-step.ensures.bytes))
    (http_on c.args.head.now c.args.byte c.requires.open (sym c.requires.named ∙ c.if-named.true))
