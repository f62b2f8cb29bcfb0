use Rattle.std.proofs.Common.{[], ◌∷◌, subst}
use Rattle.caster_accounts.specs.declared.call.BookCall.TheVariants.{Enter}
use Rattle.turn_log.specs.Heard.{Heard}
use Rattle.turn_log.proofs.HeardLaws.{heard_turn}
use Rattle.caster_accounts.specs.History.{answer}
use Rattle.session_core.proofs.book.enter.Goals as goal

pub returns-in-Entered-clause-heard : goal.returns-in-Entered-clause-heard
returns-in-Entered-clause-heard g c =
    subst (λ reply. Heard (g.B.Turns.alone c.args.book.now)
    (λ h me call. answer (g.B.Turns.shape c.args.book.now) h call) (g.B.Turns.seen c.args.book.now)
    (g.B.Turns.seen c.turn.new.self) c.args.me ((Enter c.args.account, reply) ∷ [])) c.in-Entered.is
    (heard_turn c.in_ok-turn.ensures.ok)

pub returns-in-Full-clause-heard : goal.returns-in-Full-clause-heard
returns-in-Full-clause-heard g c =
    subst (λ reply. Heard (g.B.Turns.alone c.args.book.now)
    (λ h me call. answer (g.B.Turns.shape c.args.book.now) h call) (g.B.Turns.seen c.args.book.now)
    (g.B.Turns.seen c.turn.new.self) c.args.me ((Enter c.args.account, reply) ∷ [])) c.in-Full.is
    (heard_turn c.in_ok-turn.ensures.ok)
