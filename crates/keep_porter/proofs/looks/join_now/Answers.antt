-- A join, or none.
use Rattle.keep_porter.proofs.LookLemmas.{shut_by, went_still}
use Rattle.keep_porter.proofs.looks.join_now.Goals as goal

pub returns-in-Err-clause-went : goal.returns-in-Err-clause-went
returns-in-Err-clause-went g c = went_still _ _ _ _ _ c.in-Err.ensures.err

pub returns-in-Err-clause-refused : goal.returns-in-Err-clause-refused
returns-in-Err-clause-refused g c = λ none.
    shut_by g.T.Turns.may_lack g.T.Turns.worn c.join.new.places _ c.in-Err.ensures.fault
