use Rattle.std.proofs.Common.{length, refl, Ok, Err}
use Rattle.ntrip_head.specs.declared.fault.HeadFault.TheVariants.{Bad, Coding}
use Rattle.ntrip_client.specs.declared.answer.Refusal.TheVariants.{BadHead, Coding as OtherCoding, Status}
use Rattle.ntrip_client.proofs.SayingLemmas.{response_says, other_status}
use Rattle.ntrip_client.proofs.head.by_response.Goals as goal

pub returns-else-upstream-eq200-clause-says : goal.returns-else-upstream-eq200-clause-says
returns-else-upstream-eq200-clause-says c = (
  length c.args.head.now,
  response_says c.args.head.now (Ok c.in-Ok.upstream) (Err (Status c.in-Ok.upstream.status)) c.requires.http
      c.requires.head c.in-Ok.ensures
      (other_status c.in-Ok.upstream c.if-upstream-eq200.false),
)

pub returns-in-Err-Bad-clause-says : goal.returns-in-Err-Bad-clause-says
returns-in-Err-Bad-clause-says c =
    let reads = rw c.in-Err-Bad.field-0-is at c.in-Err-Bad.ensures in (
      length c.args.head.now,
      response_says c.args.head.now (Err Bad) (Err BadHead) c.requires.http c.requires.head reads
          refl,
    )

pub returns-in-Err-Coding-clause-says : goal.returns-in-Err-Coding-clause-says
returns-in-Err-Coding-clause-says c =
    let reads = rw c.in-Err-Coding.field-0-is at c.in-Err-Coding.ensures in (
      length c.args.head.now,
      response_says c.args.head.now (Err Coding) (Err OtherCoding) c.requires.http c.requires.head reads refl,
    )
