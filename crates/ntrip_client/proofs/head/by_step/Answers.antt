use Rattle.std.proofs.Common.{subst}
use Rattle.ntrip_head.specs.declared.buffer.HeadStep.{HeadStep}
use Rattle.ntrip_head.specs.Steps.{IsStep}
use Rattle.ntrip_client.proofs.SayingLemmas.{long_response}
use Rattle.ntrip_client.proofs.head.by_step.Goals as goal

pub returns-in-Long-clause-says : goal.returns-in-Long-clause-says
returns-in-Long-clause-says c =
    long_response c.args.head.now c.requires.http
    (subst (λ (step : HeadStep). IsStep c.args.head.now step) c.in-Long.is c.requires.step)
