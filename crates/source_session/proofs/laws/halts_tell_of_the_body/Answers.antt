use Rattle.source_session.proofs.StandingLemmas.{open_at_none, ended_at_done, bad_at_fault, stands_on}
use Rattle.source_session.proofs.laws.halts_tell_of_the_body.Goals as goal

pub returns-clause-goes_on : goal.returns-clause-goes_on
returns-clause-goes_on c = λ session body stands at chunked.
    open_at_none session.halt session.chunks session.cutter.value body at chunked stands

pub returns-clause-done : goal.returns-clause-done
returns-clause-done c = λ session body stands at.
    ended_at_done session.halt session.chunks session.cutter.value body at stands

pub returns-clause-bad : goal.returns-clause-bad
returns-clause-bad c = λ session body place stands at.
    bad_at_fault session.halt session.chunks session.cutter.value body place at stands

pub returns-clause-stays : goal.returns-clause-stays
returns-clause-stays c = λ session body more halt at stands.
    stands_on session.halt halt session.chunks session.cutter.value body more at stands
