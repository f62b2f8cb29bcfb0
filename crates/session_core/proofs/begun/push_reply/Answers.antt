use Rattle.std.proofs.Common.{sym, arith, ◌∙◌}
use Rattle.session_core.proofs.BeginLemmas.{short_reply, not_refused}
use Rattle.session_core.proofs.begun.push_reply.Goals as goal

pub unreachable-requires : goal.unreachable-requires
unreachable-requires c =
    not_refused c.reply-appended.result
    (c.reply-appended.ensures.room (omega (arith, c.requires.room, short_reply c.in-Some.version c.args.with)))
    (sym c.if-is_err.true ∙ c.is_err.ensures.value)
