-- The last leaves behind the others.
use Rattle.std.proofs.Common.{◌∙◌, ◌+◌, ◌++◌, ◌∷◌, [], List, length, sym, ap, arith, append_assoc, length-append}
use Rattle.std.specs.Prelude.{vec_len}
use Rattle.caster_keep.specs.Stations.{consoles_in, gates_in, hand_at}
use Rattle.caster_keep.proofs.ListLemmas.{last_told, same_told}
use Rattle.caster_keep.proofs.DutyLemmas.{consoles_before, consoles_last, consoles_many, gates_before, gates_last, gates_many}
use Rattle.caster_keep.proofs.posts.+leave_posts.Goals as goal

pub leave_posts-requires-clause-room : goal.leave_posts-requires-clause-room
leave_posts-requires-clause-room g t c κs within =
    omega (arith, c.requires.room, gates_many c.args.posts.items c.pop.new.self.items c.in-Some.last c.in-Some.ensures.items)

pub leave_posts-requires-clause-place : goal.leave_posts-requires-clause-place
leave_posts-requires-clause-place g t c κs within =
    omega (
      arith,
      c.requires.place,
      consoles_many c.args.posts.items c.pop.new.self.items c.in-Some.last
          c.in-Some.ensures.items,
    )

pub push_reserved-requires : goal.push_reserved-requires
push_reserved-requires g t c =
    let at = gates_last c.args.posts.items c.pop.new.self.items c.in-Some.last c.in-Gate.post c.in-Some.ensures.items
    c.in-Gate.is in
    omega (
      arith,
      c.requires.room,
      ap length at,
      length-append (gates_in c.pop.new.self.items) (c.in-Gate.post ∷ []),
      c.leave_posts.ensures.count,
      c.leave_posts.ensures.capacity,
    )

pub push_reserved-requires-in-Console : goal.push_reserved-requires-in-Console
push_reserved-requires-in-Console g t c =
    let at = consoles_last c.args.posts.items c.pop.new.self.items c.in-Some.last c.in-Console.booth
    c.in-Some.ensures.items c.in-Console.is in
    omega (
      arith,
      c.requires.place,
      ap length at,
      length-append (consoles_in c.pop.new.self.items) (c.in-Console.booth ∷ []),
      c.leave_posts.ensures.booth_count,
      c.leave_posts.ensures.booth_capacity,
    )

pub returns-in-Gate-clause-hands : goal.returns-in-Gate-clause-hands
returns-in-Gate-clause-hands g t c =
    let at = gates_last c.args.posts.items c.pop.new.self.items c.in-Some.last c.in-Gate.post c.in-Some.ensures.items
    c.in-Gate.is in
    last_told _ hand_at _ (gates_in c.pop.new.self.items) (gates_in c.args.posts.items) c.in-Gate.post
    c.args.hands.now.items c.leave_posts.new.hands.items c.push_reserved.new.self.items c.into_hand.result at
    c.leave_posts.ensures.hands c.push_reserved.ensures.items c.into_hand.ensures

pub returns-in-Gate-clause-booths : goal.returns-in-Gate-clause-booths
returns-in-Gate-clause-booths g t c =
    c.leave_posts.ensures.booths
    ∙ ap (λ (l : List _). c.args.booths.now.items ++ l) (sym (consoles_before c.args.posts.items c.pop.new.self.items
    c.in-Some.last c.in-Gate.post c.in-Some.ensures.items c.in-Gate.is))

pub returns-in-Gate-clause-count : goal.returns-in-Gate-clause-count
returns-in-Gate-clause-count g t c =
    let at = gates_last c.args.posts.items c.pop.new.self.items c.in-Some.last c.in-Gate.post c.in-Some.ensures.items
    c.in-Gate.is in
    omega (
      arith,
      ap length at,
      length-append (gates_in c.pop.new.self.items) (c.in-Gate.post ∷ []),
      c.leave_posts.ensures.count,
      c.push_reserved.ensures.len,
    )

pub returns-in-Gate-clause-booth_count : goal.returns-in-Gate-clause-booth_count
returns-in-Gate-clause-booth_count g t c =
    c.leave_posts.ensures.booth_count
    ∙ ap (λ (l : List _). vec_len c.args.booths.now + length l) (sym (consoles_before c.args.posts.items
    c.pop.new.self.items c.in-Some.last c.in-Gate.post c.in-Some.ensures.items c.in-Gate.is))

pub returns-in-Console-clause-hands : goal.returns-in-Console-clause-hands
returns-in-Console-clause-hands g t c =
    same_told _ hand_at _ (gates_in c.pop.new.self.items) (gates_in c.args.posts.items) c.args.hands.now.items
    c.leave_posts.new.hands.items
    (gates_before c.args.posts.items c.pop.new.self.items c.in-Some.last c.in-Console.booth c.in-Some.ensures.items
    c.in-Console.is) c.leave_posts.ensures.hands

pub returns-in-Console-clause-booths : goal.returns-in-Console-clause-booths
returns-in-Console-clause-booths g t c =
    c.push_reserved-in-Console.ensures.items
    ∙ ap (λ (l : List _). l ++ c.in-Console.booth ∷ []) c.leave_posts.ensures.booths
    ∙ append_assoc c.args.booths.now.items (consoles_in c.pop.new.self.items) (c.in-Console.booth ∷ [])
    ∙ ap (λ (l : List _). c.args.booths.now.items ++ l) (sym (consoles_last c.args.posts.items c.pop.new.self.items
    c.in-Some.last c.in-Console.booth c.in-Some.ensures.items c.in-Console.is))

pub returns-in-Console-clause-count : goal.returns-in-Console-clause-count
returns-in-Console-clause-count g t c =
    c.leave_posts.ensures.count
    ∙ ap (λ (l : List _). vec_len c.args.hands.now + length l) (sym (gates_before c.args.posts.items
    c.pop.new.self.items c.in-Some.last c.in-Console.booth c.in-Some.ensures.items c.in-Console.is))

pub returns-in-Console-clause-booth_count : goal.returns-in-Console-clause-booth_count
returns-in-Console-clause-booth_count g t c =
    let at = consoles_last c.args.posts.items c.pop.new.self.items c.in-Some.last c.in-Console.booth
    c.in-Some.ensures.items c.in-Console.is in
    omega (
      arith,
      ap length at,
      length-append (consoles_in c.pop.new.self.items) (c.in-Console.booth ∷ []),
      c.leave_posts.ensures.booth_count,
      c.push_reserved-in-Console.ensures.len,
    )
