use Rattle.std.proofs.Common.{ℕ, refl, subst, sym}
use Rattle.turn_log.specs.Desks.{desk_seen}
use Rattle.source_session.specs.Calls.{IsHolding}
use Rattle.source_session.proofs.HeldLemmas.{held_here, held_on, holds_fed}
use Rattle.source_session.proofs.TakenLemmas.{if_none, none_weaker}
use Rattle.session_tests.proofs.source_tests.sent_in_two.Goals as goal

pub feed-first-requires-clause-held : goal.feed-first-requires-clause-held
feed-first-requires-clause-held c =
    let session = c.in_ok-session.session in
    let given = c.in_ok-session.ensures in
    if_none session.halt
    (held_here session.me session.claim (desk_seen c.claim.new.place)
    (subst (λ (me : ℕ). IsHolding me session.claim (desk_seen c.claim.new.place)) (sym given.begins.caller) given.holds))

pub feed-ended-requires-clause-held : goal.feed-ended-requires-clause-held
feed-ended-requires-clause-held c =
    let session = c.in_ok-session.session in
    let fed = c.feed-first.ensures in
    let now = c.feed-first.new.self in
    held_on now.halt now.me now.claim (desk_seen c.feed-first.new.place)
    (holds_fed _ session now (desk_seen c.feed-first.new.place) session.halt refl fed.halted
    (none_weaker session.halt (λ taken. taken.holds) fed.taken) fed.source.0 fed.source.1)
