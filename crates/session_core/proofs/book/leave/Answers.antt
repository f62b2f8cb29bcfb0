use Rattle.std.proofs.Common.{[], ◌∷◌, subst}
use Rattle.caster_accounts.specs.declared.call.BookCall.TheVariants.{Leave}
use Rattle.caster_accounts.specs.History.{answer}
use Rattle.turn_log.specs.Heard.{Heard}
use Rattle.turn_log.proofs.HeardLaws.{heard_turn}
use Rattle.session_core.proofs.book.leave.Goals as goal

pub returns-clause-heard : goal.returns-clause-heard
returns-clause-heard g c =
    let turned = c.in_ok-turn.ensures.ok in
    subst (λ reply. Heard (g.B.Turns.alone c.args.book.now)
    (λ h me call. answer (g.B.Turns.shape c.args.book.now) h call) (g.B.Turns.seen c.args.book.now)
    (g.B.Turns.seen c.turn.new.self) c.args.me ((Leave c.args.account c.args.sent c.args.overrun, reply) ∷ []))
    turned.answered (heard_turn turned)
