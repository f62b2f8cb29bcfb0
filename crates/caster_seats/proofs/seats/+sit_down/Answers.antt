-- The last lock is sat down at behind the others.
use Rattle.std.proofs.Common.{◌∙◌, ◌<◌, [], ◌∷◌, length, rules, arith, sym, ap, subst, length-append, length-take, get_or}
use Rattle.turn_log.specs.Lock.{turn_value, turn_home, pass_number, IsPassOf}
use Rattle.caster_places.specs.Piles.{AreMatched}
use Rattle.caster_seats.proofs.SharingLemmas.{last_seat, seats_before, mapped_more, last_at, speaks_more}
use Rattle.caster_seats.proofs.seats.+sit_down.Goals as goal

pub slice_bounds-sit_down-end : goal.slice_bounds-sit_down-end
slice_bounds-sit_down-end g t c =
    let ls = last_seat _ _ _ _ c.in-Some.ensures.items c.requires.matched in
    omega (
      arith,
      length-take c.len-last.result c.args.locks.now,
      ap length ls.is,
      length-append ls.front (ls.last ∷ []),
      ls.long,
      c.pop.new.self.ok.0,
    )

pub sit_down-requires-clause-matched : goal.sit_down-requires-clause-matched
sit_down-requires-clause-matched g t c κs within =
    let ls = last_seat _ _ _ _ c.in-Some.ensures.items c.requires.matched in
    let e = seats_before _ _ _ c.len-last.result ls (omega (arith, c.pop.new.self.ok.0)) in
    subst (AreMatched IsPassOf c.pop.new.self.items) (sym e) ls.before

pub offset_bounds-locks-last : goal.offset_bounds-locks-last
offset_bounds-locks-last g t c =
    let ls = last_seat _ _ _ _ c.in-Some.ensures.items c.requires.matched in
    let within : c.len-last.result < length c.args.locks.now =
    omega (arith, ap length ls.is, length-append ls.front (ls.last ∷ []), ls.long, c.pop.new.self.ok.0) in
    search rules

pub bounds-locks-last : goal.bounds-locks-last
bounds-locks-last g t c =
    let ls = last_seat _ _ _ _ c.in-Some.ensures.items c.requires.matched in
    omega (arith, ap length ls.is, length-append ls.front (ls.last ∷ []), ls.long, c.pop.new.self.ok.0)

pub seat-requires-after_bounds : goal.seat-requires-after_bounds
seat-requires-after_bounds g t c κs within =
    let ls = last_seat _ _ _ _ c.in-Some.ensures.items c.requires.matched in
    let e = c.index-locks-last.is ∙ ap (λ l. get_or l c.len-last.result c.index-locks-last.result) ls.is
    ∙ last_at ls.front ls.last c.index-locks-last.result c.len-last.result
    (omega (arith, ls.long, c.pop.new.self.ok.0)) in
    subst (IsPassOf c.in-Some.pass) (sym e) ls.fits

pub returns-clause-shapes : goal.returns-clause-shapes
returns-clause-shapes g t c =
    let ls = last_seat _ _ _ _ c.in-Some.ensures.items c.requires.matched in
    let front = seats_before _ _ _ c.len-last.result ls (omega (arith, c.pop.new.self.ok.0)) in
    let e = c.index-locks-last.is ∙ ap (λ l. get_or l c.len-last.result c.index-locks-last.result) ls.is
    ∙ last_at ls.front ls.last c.index-locks-last.result c.len-last.result
    (omega (arith, ls.long, c.pop.new.self.ok.0)) in
    mapped_more _ _ _ _ _ _ _ _ _ _ c.sit_down.ensures.shapes front ls.is c.push_reserved.ensures.items
    (c.seat.ensures.shape ∙ ap (λ turn. g.V.Played.shape (turn_value turn)) e)

pub returns-clause-homes : goal.returns-clause-homes
returns-clause-homes g t c =
    let ls = last_seat _ _ _ _ c.in-Some.ensures.items c.requires.matched in
    let front = seats_before _ _ _ c.len-last.result ls (omega (arith, c.pop.new.self.ok.0)) in
    let e = c.index-locks-last.is ∙ ap (λ l. get_or l c.len-last.result c.index-locks-last.result) ls.is
    ∙ last_at ls.front ls.last c.index-locks-last.result c.len-last.result
    (omega (arith, ls.long, c.pop.new.self.ok.0)) in
    mapped_more _ _ _ _ _ _ _ _ _ _ c.sit_down.ensures.homes front ls.is c.push_reserved.ensures.items
    (c.seat.ensures.home ∙ ap turn_home e)

pub returns-clause-speaks : goal.returns-clause-speaks
returns-clause-speaks g t c = λ number numbered old.
    speaks_more _ pass_number number _ _ _ _ _ _ c.in-Some.ensures.items c.push_reserved.ensures.items numbered
    (λ before. c.sit_down.ensures.speaks number before old) c.seat.ensures.speaks
