-- The places are seats of all locks.
use Rattle.std.proofs.Common.{◌∙◌, map, sym, ap}
use Rattle.std.proofs.lemmas.Bool.{eq-eqb}
use Rattle.mount_ring.specs.Kept.{ring_shape}
use Rattle.turn_log.specs.Lock.{turn_value, turn_home, pass_number}
use Rattle.caster_seats.proofs.SharingLemmas.{mapped_none, none_say}
use Rattle.caster_seats.proofs.shared.Shared.places.Goals as goal

pub returns-clause-fit : goal.returns-clause-fit
returns-clause-fit g c = λ number of_number. record {
  shapes_fit = mapped_none _ _ _ _ c.sit_down.ensures.shapes c.in_ok-seats.ensures.items
      ∙ ap (map (λ turn. ring_shape (turn_value turn))) c.deref.ensures.value ∙ c.requires.ready.shapes_are;
  caps_fit = c.seat.ensures.shape ∙ c.requires.ready.caps_are;
  rings = c.sit_down.ensures.speaks number of_number.numbered
      (none_say _ c.in_ok-seats.seats.items number c.in_ok-seats.ensures.items);
  book = c.seat.ensures.speaks number
      ∙ eq-eqb number (pass_number c.args.passes.book) (sym of_number.book_numbered);
}

pub returns-clause-at : goal.returns-clause-at
returns-clause-at g c = λ number of_number. record {
  speaks = c.sit_down.ensures.speaks number of_number.numbered
      (none_say _ c.in_ok-seats.seats.items number c.in_ok-seats.ensures.items);
  book_speaks = c.seat.ensures.speaks number
      ∙ eq-eqb number (pass_number c.args.passes.book) (sym of_number.book_numbered);
  homes = mapped_none _ _ _ _ c.sit_down.ensures.homes c.in_ok-seats.ensures.items
      ∙ ap (map turn_home) c.deref.ensures.value;
  shapes = mapped_none _ _ _ _ c.sit_down.ensures.shapes c.in_ok-seats.ensures.items
      ∙ ap (map (λ turn. ring_shape (turn_value turn))) c.deref.ensures.value;
  book_home = c.seat.ensures.home;
  caps = c.seat.ensures.shape;
}
