use Rattle.turn_log.specs.Desks.{desk_seen}
use Rattle.caster_accounts.specs.Kept.{caps_of}
use Rattle.caster_accounts.proofs.BookLemmas.{leave_stays}
use Rattle.session_tests.proofs.book_tests.leave.Goals as goal

pub returns-clause-stays : goal.returns-clause-stays
returns-clause-stays c = λ by place apart may.
    leave_stays (caps_of c.args.desk.now.value) (caps_of c.turn.new.self.value) (desk_seen c.args.desk.now)
    (desk_seen c.turn.new.self)
    c.args.me c.args.account c.args.sent c.args.overrun by place c.turn.result tt c.turn.new.room c.turn.ensures.shape
    c.turn.ensures.ok c.turn.ensures.err
    c.requires apart may
