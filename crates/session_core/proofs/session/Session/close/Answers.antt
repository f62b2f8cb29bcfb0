-- The session's receipt is that of its stage.
use Rattle.std.proofs.Common.{◌∙◌, map, sym}
use Rattle.std.proofs.lemmas.List.{length-map}
use Rattle.std.proofs.lemmas.Result.{on_ok_weaker}
use Rattle.session_core.specs.Beginnings.{lacks_at, worn_at}
use Rattle.session_model.specs.Called.{alone_at, seen_at}
use Rattle.session_core.specs.Closing.{closing_at}
use Rattle.session_core.proofs.CloseLawLemmas.{called_either, closed_at, held_by, unsettled_by}
use Rattle.session_core.proofs.session.Session.close.Goals as goal

pub settle-settled-requires-clause-held : goal.settle-settled-requires-clause-held
settle-settled-requires-clause-held g c =
    let follows = c.requires.follows in
    held_by follows.0 c.args.self (seen_at g.T.Turns.seen g.B.Turns.seen c.args.places.now.rings.items
    c.args.places.now.book)
    (map g.T.Turns.shape c.args.places.now.rings.items) (g.B.Turns.shape c.args.places.now.book)
    (length-map c.args.places.now.rings.items g.T.Turns.seen ∙ sym (length-map c.args.places.now.rings.items
    g.T.Turns.shape))
    follows.1 follows.2 follows.3

pub returns-clause-called : goal.returns-clause-called
returns-clause-called g c = λ config shaped capped.
    let old = c.args.places.now in
    let new = c.settle-settled.new.places in
    called_either config (alone_at g.T.Turns.alone g.B.Turns.alone old.rings.items old.book)
    (seen_at g.T.Turns.seen g.B.Turns.seen old.rings.items old.book)
    (seen_at g.T.Turns.seen g.B.Turns.seen new.rings.items new.book) c.args.self.me (closing_at c.args.self.stage)
    c.settle-settled.result c.receipt_of.result.settled (c.receipt_of.ensures.settled ∙ c.is_ok.ensures.value)
    (on_ok_weaker c.settle-settled.result (λ told. told config shaped capped) c.settle-settled.ensures.settled)
    c.settle-settled.ensures.refused

pub returns-clause-unsettled : goal.returns-clause-unsettled
returns-clause-unsettled g c =
    let old = c.args.places.now in
    let new = c.settle-settled.new.places in
    unsettled_by c.settle-settled.result c.receipt_of.result.settled
    (lacks_at g.T.Turns.may_lack g.B.Turns.may_lack old.rings.items old.book)
    (worn_at g.T.Turns.worn g.B.Turns.worn new.rings.items new.book)
    (c.receipt_of.ensures.settled ∙ c.is_ok.ensures.value) c.settle-settled.ensures.cause

pub returns-clause-closed : goal.returns-clause-closed
returns-clause-closed g c = λ config opening heading text steps histories sent shaped capped is stands others.
    let old = c.args.places.now in
    let new = c.settle-settled.new.places in
    let settled = c.settle-settled.ensures in
    let told = c.receipt_of.ensures in
    closed_at config (alone_at g.T.Turns.alone g.B.Turns.alone old.rings.items old.book)
    (seen_at g.T.Turns.seen g.B.Turns.seen old.rings.items old.book)
    (seen_at g.T.Turns.seen g.B.Turns.seen new.rings.items new.book) c.args.self c.settle-settled.new.stage
    opening heading text steps histories sent c.args.last c.receipt_of.result c.settle-settled.result settled.stage
    is
    stands
    (on_ok_weaker c.settle-settled.result (λ told. told config shaped capped) settled.settled) settled.refused
    (told.settled ∙ c.is_ok.ensures.value) told.ending told.segments told.sent told.overrun told.junk told.entered
