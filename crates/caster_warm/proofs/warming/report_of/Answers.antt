use Rattle.caster_warm.specs.Parts.{sent_to}
use Rattle.caster_warm.proofs.PartLemmas.{warm_of}
use Rattle.caster_warm.proofs.warming.report_of.Goals as goal

pub returns : goal.returns
returns c = λ script short stands bytes.
    warm_of c.args.config.now script (λ n. sent_to n c.args.sent.now) c.in_ok-plain.plain.items
    c.in-Ok.connections.items c.new.result c.in_ok-plain.closed
    (c.in_ok-plain.ensures.report script short stands) bytes c.in-Ok.ensures c.new.ensures
