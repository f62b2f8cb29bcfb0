use Rattle.std.proofs.Common.{length, sym, ap, ◌∙◌, Err}
use Rattle.ntrip_client.specs.declared.answer.Refusal.TheVariants.{BadHead, Table}
use Rattle.ntrip_client.specs.Answer.{said_by_line}
use Rattle.ntrip_client.proofs.SayingLemmas.{line_says}
use Rattle.ntrip_client.proofs.head.by_line.Goals as goal

pub returns-in-Table-clause-says : goal.returns-in-Table-clause-says
returns-in-Table-clause-says c = (
  length c.args.head.now,
  line_says c.args.front.now c.args.head.now (Err Table) c.requires.line c.requires.free c.requires.within
      (ap said_by_line (sym c.kind_of.ensures ∙ c.in-Table.is)),
)

pub returns-in-Other-clause-says : goal.returns-in-Other-clause-says
returns-in-Other-clause-says c = (
  length c.args.head.now,
  line_says c.args.front.now c.args.head.now (Err BadHead) c.requires.line c.requires.free c.requires.within
      (ap said_by_line (sym c.kind_of.ensures ∙ c.in-Other.is)),
)
