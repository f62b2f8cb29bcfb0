use Rattle.std.proofs.Common.{inl, rules}
use Rattle.ntrip_head.specs.SourceHead.{SourceAnswer}
use Rattle.ntrip_head.proofs.OutcomeLemmas.{told_so}
use Rattle.ntrip_head.proofs.source_head.read_source.Goals as goal

pub returns : goal.returns
returns c =
    told_so (SourceAnswer c.args.bytes.now) c.source_in.result _ c.source_in.ensures
    (inl (search rules, search rules))
