-- The locks of a caster, closed with the piles of all its callers.
use Rattle.std.proofs.Common.{◌≡◌, ◌∙◌, ◌<◌, ℕ, List, [], length, sym, subst, All}
use Rattle.std.proofs.lemmas.List.{length-map}
use Rattle.turn_log.specs.History.{History}
use Rattle.turn_log.specs.Lock.{turn_passes}
use Rattle.turn_log.proofs.LockLists.{at_length, at_or}
use Rattle.mount_ring.specs.declared.call.RingCall.{RingCall}
use Rattle.caster_accounts.specs.declared.call.BookCall.{BookCall}
use Rattle.session_calls.specs.Rings.{history_at}
use Rattle.session_model.specs.Run.{Histories}
use Rattle.caster_places.specs.declared.pass_piles.PassPiles.{PassPiles}
use Rattle.caster_places.specs.Piles.{AreAllOf, HasAllOf, IsWhole}
use Rattle.caster_places.specs.Rows.{ArePiles, AreWhole, BookLock, RingLocks, seen_of, seen_in_book}
use Rattle.caster_places.proofs.ListLemmas.{matched_by, matched_at, matched-length, all_at, within}
use Rattle.caster_places.proofs.PileLemmas.{AllClosing, AllClosed, pile_length, all_of_pile, whole_of_pile}

module _ (rows : List Histories) (piles : PassPiles) (rings : RingLocks) (book : BookLock)
    (are : ArePiles rows piles rings book) where
  -- as many passes of the book were given back as there are callers
  count : length piles.book.items ≡ length rows
  count =
      pile_length (seen_in_book rows) piles.book.items book are.book
      ∙ length-map rows (λ (row : Histories). row.book)

  pub rings_closing : All (λ lock. turn_passes lock ≡ length piles.book.items) rings
      → AllClosing piles.rings.items rings
  rings_closing all =
      matched_by _ piles.rings.items rings are.size (λ mount pile lock here there.
      all_of_pile (seen_of rows mount) pile.items lock (are.rings mount pile lock here there)
      (pile_length (seen_of rows mount) pile.items lock (are.rings mount pile lock here there)
      ∙ length-map rows (λ (row : Histories). history_at row.rings mount) ∙ sym count
      ∙ sym (all_at (λ lock. turn_passes lock ≡ length piles.book.items) rings mount lock all there)))

  pub book_closing : turn_passes book ≡ length piles.book.items → AreAllOf piles.book.items book
  book_closing all = all_of_pile (seen_in_book rows) piles.book.items book are.book (sym all)

  pub rows_whole : (wholes : List (History RingCall)) (whole : History BookCall) (mounts : ℕ)
      → AllClosed piles.rings.items wholes → HasAllOf piles.book.items whole → length rings ≡ mounts
      → AreWhole rows (record { rings = wholes; book = whole }) mounts
  rows_whole wholes whole mounts closed has many = record {
    size = sym (matched-length _ piles.rings.items wholes closed) ∙ are.size ∙ many;
    rings = λ mount less.
        let here = within wholes mount less in
        let pile = matched_at _ piles.rings.items wholes mount here.0 closed here.1 in
        let lock = within rings mount
        (subst (λ (n : ℕ). mount < n) are.size (at_length piles.rings.items mount pile.0 pile.1)) in
        subst (IsWhole (seen_of rows mount)) (sym (at_or wholes mount here.0 [] here.1))
        (whole_of_pile (seen_of rows mount) pile.0.items lock.0 here.0
        (are.rings mount pile.0 lock.0 pile.1 lock.1) pile.2);
    book = whole_of_pile (seen_in_book rows) piles.book.items book whole are.book has;
  }
