-- Each pile has one pass more, and with it one row more.
use Rattle.std.proofs.Common.{◌∙◌, [], ◌∷◌, map, sym, subst, arith}
use Rattle.std.proofs.lemmas.List.{length-map, map-append}
use Rattle.session_calls.specs.Rings.{history_at}
use Rattle.session_model.specs.Run.{Histories}
use Rattle.session_model.specs.Called.{seen_at}
use Rattle.caster_places.specs.Piles.{IsPile}
use Rattle.caster_places.specs.Rows.{seen_of}
use Rattle.caster_places.proofs.ListLemmas.{three-length}
use Rattle.caster_places.proofs.PileLemmas.{each_within, later_matched, one_within, pile_more, piles_more}
use Rattle.caster_places.proofs.leaving.leave.Goals as goal

pub returns-clause-left : goal.returns-clause-left
returns-clause-left g c = λ number rows rings book at long piles.
    let row : Histories = seen_at g.T.Turns.seen g.B.Turns.seen c.args.places.rings.items c.args.places.book in record {
      size = three-length _ _ _ _ c.leave_each.ensures.back ∙ piles.size;
      rings = λ mount pile lock here there.
          subst (λ l. IsPile l pile.items lock)
          (sym (map-append (λ (h : Histories). history_at h.rings mount) rows (row ∷ [])))
          (piles_more g.T.Turns.speaks g.T.Turns.seen g.T.Turns.home g.T.Turns.shape g.T.Turns.worn c.args.places.rings.items _ _ rings
          number (seen_of rows) c.leave_each.ensures.back at.speaks at.homes at.shapes
          (λ m. long ∙ sym (length-map rows (λ (h : Histories). history_at h.rings m))) piles.rings mount pile lock here
          there);
      book = subst (λ l. IsPile l c.push_reserved.new.self.items book)
          (sym (map-append (λ (h : Histories). h.book) rows (row ∷ [])))
          (pile_more g.B.Turns.speaks g.B.Turns.seen g.B.Turns.home g.B.Turns.shape g.B.Turns.worn c.args.places.book
          c.args.piles.now.book.items c.push_reserved.new.self.items book number
          (map (λ (h : Histories). h.book) rows) (record {
            pass = c.give_back.result;
            more = c.push_reserved.ensures.items;
            number = c.give_back.ensures.number;
            saw = c.give_back.ensures.seen;
            home_is = c.give_back.ensures.home;
            shape_is = c.give_back.ensures.shape;
            wore = c.give_back.ensures.worn;
          }) at.book_speaks at.book_home at.caps (long ∙ sym (length-map rows (λ (h : Histories). h.book))) piles.book);
    }

pub returns-clause-worn : goal.returns-clause-worn
returns-clause-worn g c = λ mounts book within.
    let t = g.T.Turns in let b = g.B.Turns in
    let rings = each_within t.speaks t.seen t.home t.shape t.worn c.args.places.rings.items
    c.args.piles.now.rings.items _ mounts c.leave_each.ensures.back within.rings in
    let last = one_within b.speaks b.seen b.home b.shape b.worn c.args.places.book c.args.piles.now.book.items
    c.push_reserved.new.self.items book (record {
      pass = c.give_back.result;
      more = c.push_reserved.ensures.items;
      number = c.give_back.ensures.number;
      saw = c.give_back.ensures.seen;
      home_is = c.give_back.ensures.home;
      shape_is = c.give_back.ensures.shape;
      wore = c.give_back.ensures.worn;
    }) within.book_within in (
      record { rings = rings.0; book_within = last.0 },
      later_matched (map t.worn c.args.places.rings.items) mounts (b.worn c.args.places.book) book rings.1 last.1,
    )

pub returns-clause-room : goal.returns-clause-room
returns-clause-room g c = λ callers had. record {
  rings = c.leave_each.ensures.room callers had.rings;
  book = omega (arith, had.book, c.push_reserved.ensures.len, c.push_reserved.ensures.capacity);
}
