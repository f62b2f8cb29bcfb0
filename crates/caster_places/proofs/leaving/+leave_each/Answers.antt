-- The last place gives its pass to the last pile.
use Rattle.caster_places.proofs.ListLemmas.{three_more}
use Rattle.caster_places.proofs.PileLemmas.{room_more}
use Rattle.caster_places.proofs.leaving.+leave_each.Goals as goal

pub returns-clause-back : goal.returns-clause-back
returns-clause-back g t c =
    three_more _ _ _ _ _ _ _ _ _ _ c.in-Some.ensures.items c.in-Some-pop.ensures.items
    c.push_reserved-2.ensures.items c.leave_each.ensures.back (record {
      pass = c.give_back.result;
      more = c.push_reserved.ensures.items;
      number = c.give_back.ensures.number;
      saw = c.give_back.ensures.seen;
      home_is = c.give_back.ensures.home;
      shape_is = c.give_back.ensures.shape;
      wore = c.give_back.ensures.worn;
    })

pub returns-clause-room : goal.returns-clause-room
returns-clause-room g t c = λ n all.
    room_more n _ _ _ _ _ _ c.in-Some-pop.ensures.items c.push_reserved-2.ensures.items c.push_reserved.ensures.len
    c.push_reserved.ensures.capacity (c.leave_each.ensures.room n) all
