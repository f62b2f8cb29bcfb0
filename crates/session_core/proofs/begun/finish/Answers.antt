use Rattle.std.proofs.Common.{inl, inr, subst, Option}
use Rattle.ntrip_head.specs.declared.request.Version.{Version}
use Rattle.session_core.specs.Beginnings.{IsTableFor}
use Rattle.session_core.proofs.BeginLemmas.{refused_untold, refused_told}
use Rattle.session_core.proofs.begun.finish.Goals as goal

pub returns-in-None-clause-begins : goal.returns-in-None-clause-begins
returns-in-None-clause-begins c config alone h me same =
    refused_untold config alone h me c.args.version c.args.last.0 c.args.last.1 c.over.result.stage c.over.result.ended
    c.args.out.now.items c.in-None.is c.over.ensures.stage c.over.ensures.ended

pub returns-in-Ok-clause-begins : goal.returns-in-Ok-clause-begins
returns-in-Ok-clause-begins c config alone h me same =
    let over = c.over-in-Ok in
    refused_told config alone h me c.args.version c.in-Some.version c.args.last.0 c.args.last.1 c.args.table.now
    over.result.stage over.result.ended c.args.out.now.items c.reply.new.out.items c.in-Some.is over.ensures.stage
    (inl (over.ensures.ended, c.in-Ok.ensures.ok))
    (subst (λ (v : Option Version). IsTableFor v c.args.table.now config) c.in-Some.is same)

pub returns-in-Err-clause-begins : goal.returns-in-Err-clause-begins
returns-in-Err-clause-begins c config alone h me same =
    let over = c.over-in-Err in
    refused_told config alone h me c.args.version c.in-Some.version c.args.last.0 c.args.last.1 c.args.table.now
    over.result.stage over.result.ended c.args.out.now.items c.reply.new.out.items c.in-Some.is over.ensures.stage
    (inr (over.ensures.ended, c.in-Err.ensures.err))
    (subst (λ (v : Option Version). IsTableFor v c.args.table.now config) c.in-Some.is same)
