use Rattle.std.proofs.Common.{List, [], ℕ, subst, append-nil}
use Rattle.rtcm_frame.specs.Pending.{Gave}
use Rattle.rtcm_frame.proofs.PendingLemmas.{took_found, gave_took, gave_waiting}
use Rattle.rtcm_frame.proofs.stream.Cutter.next.Goals as goal

pub returns-in-Some-clause-found : goal.returns-in-Some-clause-found
returns-in-Some-clause-found c =
    let found = c.in-Some.ensures.found in
    took_found _ c.find.new.self _ c.in-Some.count _ found.0 found.2 found.3
    c.take_front.ensures.frame c.take_front.ensures.behind

pub returns-in-Some-clause-gave : goal.returns-in-Some-clause-gave
returns-in-Some-clause-gave c = λ given all gave.
    let found = c.in-Some.ensures.found in
    gave_took given _ all _ _ gave (
    took_found _ c.find.new.self _ c.in-Some.count _ found.0 found.2 found.3
    c.take_front.ensures.frame c.take_front.ensures.behind)

pub returns-in-None-clause-gave_all : goal.returns-in-None-clause-gave_all
returns-in-None-clause-gave_all c = λ given all gave.
    let none = c.in-None.ensures.none in
    let still = gave_took given [] all _ _ gave none.0 in
    let same : Gave given all c.find.new.self =
    subst (λ (fs : List (List ℕ)). Gave fs all c.find.new.self) (append-nil given) still
    in
    (same, gave_waiting given all c.find.new.self same none.1)
