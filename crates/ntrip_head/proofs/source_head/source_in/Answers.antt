use Rattle.std.proofs.Common.{◌≡◌, Result, subst}
use Rattle.ntrip_head.specs.declared.fault.HeadFault.{HeadFault}
use Rattle.ntrip_head.specs.declared.request.Request.{Request}
use Rattle.ntrip_head.specs.Outcome.{Gives}
use Rattle.ntrip_head.specs.SourceHead.{source_of, source_in}
use Rattle.ntrip_head.proofs.source_head.source_in.Goals as goal

pub returns : goal.returns
returns c =
    let same : source_of c.cut_by.result.0.now c.cut_by.result.1.now ≡ source_in c.args.line.now = cc in
    subst (λ (told : Result Request HeadFault). Gives c.source_of.result told) same c.source_of.ensures
