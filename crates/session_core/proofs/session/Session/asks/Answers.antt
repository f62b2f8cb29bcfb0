-- What it asked is what its head says.
use Rattle.std.proofs.Common.{Option, sym, subst}
use Rattle.session_core.specs.Asking.{IsAsking, asked_in}
use Rattle.session_core.specs.declared.asked.Asked.{Asked}
use Rattle.session_core.proofs.AskingLemmas.{asks_so}
use Rattle.session_core.proofs.session.Session.asks.Goals as goal

pub returns-clause-heading : goal.returns-clause-heading
returns-clause-heading c = λ opening heading text is tells.
    subst (λ (told : Option Asked). IsAsking told c.args.self.now.ended (asked_in heading)) (sym c.as_ref.ensures.value)
    (asks_so c.args.self.now opening heading text is tells)
