-- Who met the note has seen what its writer had seen, a frame among it.
use Rattle.std.proofs.Common.{IsTrue, None, sym, ◌∙◌, subst}
use Rattle.ring_tests.specs.Newest.{fits_newest, newest_on}
use Rattle.ring_tests.proofs.lock_tests.tell.Goals as goal

pub turn-requires-clause-fits : goal.turn-requires-clause-fits
turn-requires-clause-fits g c =
    let told = c.meet.ensures.told in
    let first = subst (λ h. IsTrue (fits_newest h None)) (sym (c.note-note.ensures.copied ∙ c.leave-first.ensures.seen))
    c.in_ok-own.ensures.ok in
    subst (λ h. IsTrue (fits_newest h None)) (sym (c.seat-seat-2.ensures.seen ∙ told.1))
    (newest_on c.note-note.result.token.me.0.seen told.0 first)
