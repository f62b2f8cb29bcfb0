use Rattle.std.proofs.Common.{◌∙◌, ℕ, Bool, IsTrue, refl, sym, subst, arith}
use Rattle.turn_log.proofs.TurnLaws.{same_both}
use Rattle.session_calls.proofs.PlaceLemmas.{speak_same}
use Rattle.rover_session.proofs.AtLemmas.{same_places_both}
use Rattle.session_model.specs.Called.{seen_at}
use Rattle.session_core.proofs.FeedHeadLemmas.{alone_as}
use Rattle.session_core_tests.proofs.FollowLemmas.{follows_less, follows_on}
use Rattle.session_core_tests.proofs.serving.serve_two.Goals as goal

pub loop-step-init : goal.loop-step-init
loop-step-init g c = record {
  first_me = refl;
  second_me = refl;
  rings = (refl, refl, refl, refl, refl);
  book = (refl, refl, refl, refl, refl);
  first = c.requires.first;
  second = c.requires.second;
}

-- ---- each step

pub happen_to-room-requires-clause-shapes : goal.happen_to-room-requires-clause-shapes
happen_to-room-requires-clause-shapes g c = c.loop-step.invariant.rings.0 ∙ c.requires.shapes

pub happen_to-room-requires-clause-caps : goal.happen_to-room-requires-clause-caps
happen_to-room-requires-clause-caps g c = c.loop-step.invariant.book.0 ∙ c.requires.caps

pub happen_to-room-requires-clause-rings : goal.happen_to-room-requires-clause-rings
happen_to-room-requires-clause-rings g c = λ me.
    speak_same g.T.Turns.speaks c.args.places.now.rings.items c.loop-step.places.rings.items me
    c.loop-step.invariant.rings.1 (c.requires.rings me)

pub happen_to-room-requires-clause-book : goal.happen_to-room-requires-clause-book
happen_to-room-requires-clause-book g c = λ me.
    subst (λ (speaks : ℕ → Bool). IsTrue (speaks me)) (sym c.loop-step.invariant.book.1) (c.requires.book me)

pub happen_to-room-requires-clause-alone : goal.happen_to-room-requires-clause-alone
happen_to-room-requires-clause-alone g c =
    subst IsTrue (sym (alone_as g.T.Turns.alone g.B.Turns.alone c.args.places.now.rings.items
    c.loop-step.places.rings.items c.args.places.now.book c.loop-step.places.book c.loop-step.invariant.rings.3
    c.loop-step.invariant.book.3)) c.requires.alone

pub happen_to-room-requires-clause-apart : goal.happen_to-room-requires-clause-apart
happen_to-room-requires-clause-apart g c = λ same.
    c.requires.apart (sym c.loop-step.invariant.first_me ∙ same ∙ c.loop-step.invariant.second_me)

pub happen_to-room-requires-clause-first : goal.happen_to-room-requires-clause-first
happen_to-room-requires-clause-first g c = c.loop-step.invariant.first

pub happen_to-room-requires-clause-second : goal.happen_to-room-requires-clause-second
happen_to-room-requires-clause-second g c = c.loop-step.invariant.second

pub loop-step-preserved : goal.loop-step-preserved
loop-step-preserved g c =
    let t = g.T.Turns in
    let b = g.B.Turns in
    let old = c.args.places.now in
    let mid = c.loop-step.places in
    let new = c.happen_to-room.new.places in
    let now = c.happen_to-room.ensures in
    let before = c.loop-step.invariant in record {
      first_me = now.first_me ∙ before.first_me;
      second_me = now.second_me ∙ before.second_me;
      rings = same_places_both t.shape t.speaks t.may_lack t.alone t.home old.rings.items mid.rings.items
          new.rings.items before.rings now.same_rings;
      book = same_both b.shape b.speaks b.may_lack b.alone b.home old.book mid.book new.book before.book
          now.same_book;
      first = now.first;
      second = now.second;
    }

-- ---- the first is closed

pub close_at-receipt-requires-clause-shapes : goal.close_at-receipt-requires-clause-shapes
close_at-receipt-requires-clause-shapes g c = c.loop-step.invariant.rings.0 ∙ c.requires.shapes

pub close_at-receipt-requires-clause-caps : goal.close_at-receipt-requires-clause-caps
close_at-receipt-requires-clause-caps g c = c.loop-step.invariant.book.0 ∙ c.requires.caps

pub close_at-receipt-requires-clause-rings : goal.close_at-receipt-requires-clause-rings
close_at-receipt-requires-clause-rings g c =
    speak_same g.T.Turns.speaks c.args.places.now.rings.items c.loop-step.places.rings.items
    c.loop-step.two.first.session.me c.loop-step.invariant.rings.1
    (c.requires.rings c.loop-step.two.first.session.me)

pub close_at-receipt-requires-clause-book : goal.close_at-receipt-requires-clause-book
close_at-receipt-requires-clause-book g c =
    subst (λ (speaks : ℕ → Bool). IsTrue (speaks c.loop-step.two.first.session.me))
    (sym c.loop-step.invariant.book.1) (c.requires.book c.loop-step.two.first.session.me)

pub close_at-receipt-requires-clause-alone : goal.close_at-receipt-requires-clause-alone
close_at-receipt-requires-clause-alone g c =
    subst IsTrue (sym (alone_as g.T.Turns.alone g.B.Turns.alone c.args.places.now.rings.items
    c.loop-step.places.rings.items c.args.places.now.book c.loop-step.places.book c.loop-step.invariant.rings.3
    c.loop-step.invariant.book.3)) c.requires.alone

pub close_at-receipt-requires-clause-follows : goal.close_at-receipt-requires-clause-follows
close_at-receipt-requires-clause-follows g c =
    follows_less c.args.config.now c.loop-step.two.first.session
    (seen_at g.T.Turns.seen g.B.Turns.seen c.loop-step.places.rings.items c.loop-step.places.book) c.loop-step.room 0
    (omega arith) c.loop-step.invariant.first

-- ---- and then the second

pub close_at-receipt-requires-2-clause-shapes : goal.close_at-receipt-requires-2-clause-shapes
close_at-receipt-requires-2-clause-shapes g c =
    c.close_at-receipt.ensures.same_rings.0 ∙ c.loop-step.invariant.rings.0 ∙ c.requires.shapes

pub close_at-receipt-requires-2-clause-caps : goal.close_at-receipt-requires-2-clause-caps
close_at-receipt-requires-2-clause-caps g c =
    c.close_at-receipt.ensures.same_book.0 ∙ c.loop-step.invariant.book.0 ∙ c.requires.caps

pub close_at-receipt-requires-2-clause-rings : goal.close_at-receipt-requires-2-clause-rings
close_at-receipt-requires-2-clause-rings g c =
    speak_same g.T.Turns.speaks c.args.places.now.rings.items c.close_at-receipt.new.places.rings.items
    c.loop-step.two.second.session.me (c.close_at-receipt.ensures.same_rings.1 ∙ c.loop-step.invariant.rings.1)
    (c.requires.rings c.loop-step.two.second.session.me)

pub close_at-receipt-requires-2-clause-book : goal.close_at-receipt-requires-2-clause-book
close_at-receipt-requires-2-clause-book g c =
    subst (λ (speaks : ℕ → Bool). IsTrue (speaks c.loop-step.two.second.session.me))
    (sym (c.close_at-receipt.ensures.same_book.1 ∙ c.loop-step.invariant.book.1))
    (c.requires.book c.loop-step.two.second.session.me)

pub close_at-receipt-requires-2-clause-alone : goal.close_at-receipt-requires-2-clause-alone
close_at-receipt-requires-2-clause-alone g c =
    subst IsTrue (sym (alone_as g.T.Turns.alone g.B.Turns.alone c.args.places.now.rings.items
    c.close_at-receipt.new.places.rings.items c.args.places.now.book c.close_at-receipt.new.places.book
    (c.close_at-receipt.ensures.same_rings.3 ∙ c.loop-step.invariant.rings.3)
    (c.close_at-receipt.ensures.same_book.3 ∙ c.loop-step.invariant.book.3))) c.requires.alone

pub close_at-receipt-requires-2-clause-follows : goal.close_at-receipt-requires-2-clause-follows
close_at-receipt-requires-2-clause-follows g c =
    let t = g.T.Turns in
    let b = g.B.Turns in
    let mid = c.loop-step.places in
    let new = c.close_at-receipt.new.places in
    let session = c.loop-step.two.second.session in
    follows_less c.args.config.now session (seen_at t.seen b.seen new.rings.items new.book) c.loop-step.room 0
    (omega arith)
    (follows_on c.args.config.now session (seen_at t.seen b.seen mid.rings.items mid.book)
    (seen_at t.seen b.seen new.rings.items new.book) c.loop-step.room c.loop-step.invariant.second
    (c.close_at-receipt.ensures.others session.me
    (λ same. c.requires.apart (sym c.loop-step.invariant.first_me ∙ sym same ∙ c.loop-step.invariant.second_me))))

-- ---- the places

pub returns-clause-same_rings : goal.returns-clause-same_rings
returns-clause-same_rings g c =
    let t = g.T.Turns in
    let old = c.args.places.now.rings.items in
    let first = c.close_at-receipt.new.places.rings.items in
    same_places_both t.shape t.speaks t.may_lack t.alone t.home old first c.close_at-receipt-2.new.places.rings.items
    (same_places_both t.shape t.speaks t.may_lack t.alone t.home old c.loop-step.places.rings.items first
    c.loop-step.invariant.rings c.close_at-receipt.ensures.same_rings) c.close_at-receipt-2.ensures.same_rings

pub returns-clause-same_book : goal.returns-clause-same_book
returns-clause-same_book g c =
    let b = g.B.Turns in
    let old = c.args.places.now.book in
    let first = c.close_at-receipt.new.places.book in
    same_both b.shape b.speaks b.may_lack b.alone b.home old first c.close_at-receipt-2.new.places.book
    (same_both b.shape b.speaks b.may_lack b.alone b.home old c.loop-step.places.book first
    c.loop-step.invariant.book c.close_at-receipt.ensures.same_book) c.close_at-receipt-2.ensures.same_book
