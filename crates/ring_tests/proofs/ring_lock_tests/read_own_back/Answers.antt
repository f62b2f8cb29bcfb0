-- The claim that was given is held at the publish, and the cursor of the join may be read behind
-- it.
use Rattle.std.proofs.Common.{◌<◌, ◌∙◌, ◌++◌, length, sym, subst}
use Rattle.mount_ring.specs.declared.shape.RingShape.{RingShape}
use Rattle.mount_ring.specs.Shapes.{shape_of}
use Rattle.mount_ring.proofs.OwnLemmas.{given_held, held_joined, joined_reads}
use Rattle.ring_tests.proofs.ring_lock_tests.read_own_back.Goals as goal

pub turn-requires-3-clause-fits : goal.turn-requires-3-clause-fits
turn-requires-3-clause-fits g c =
    let given = c.in_ok-claim.ensures.ok in
    let joined = c.in_ok-cursor.ensures.ok in
    held_joined (shape_of (g.T.Turns.shape c.turn.new.self)) (g.T.Turns.seen c.turn.new.self) joined.others
    (g.T.Turns.seen c.turn-2.new.self)
    c.args.me c.in-Given.claim 0
    (given_held (shape_of (g.T.Turns.shape c.args.place.now)) (g.T.Turns.seen c.args.place.now ++ given.others)
    (g.T.Turns.seen c.turn.new.self)
    c.args.me c.in-Given.claim given.seen (sym c.in-Given.is ∙ given.answered))
    joined.none_of_mine joined.seen joined.legal

pub turn-requires-4-clause-fits : goal.turn-requires-4-clause-fits
turn-requires-4-clause-fits g c =
    let joined = c.in_ok-cursor.ensures.ok in
    let published = c.in_ok-turn.ensures.ok in
    joined_reads (g.T.Turns.shape c.turn.new.self) (g.T.Turns.shape c.turn-3.new.self)
    (g.T.Turns.seen c.turn.new.self ++ joined.others) (g.T.Turns.seen c.turn-2.new.self) published.others
    (g.T.Turns.seen c.turn-3.new.self)
    c.args.me 0 _ c.in-Joined.cursor
    (subst (λ (s : RingShape). 0 < length s.filters) (sym c.in_ok-claim.ensures.same.0) c.requires.filter)
    (c.in_ok-turn.ensures.same.0 ∙ c.in_ok-cursor.ensures.same.0) joined.seen (sym c.in-Joined.is ∙ joined.answered)
    published.seen
