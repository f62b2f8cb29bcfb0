-- All kept serving, and left; the porter stays at its booth.
use Rattle.std.proofs.Common.{◌≡◌, ◌∙◌, ◌+◌, ℕ, length, sym, ap, subst, arith}
use Rattle.std.proofs.lemmas.List.{length-map}
use Rattle.std.proofs.lemmas.Result.{IfOk-weaker}
use Rattle.caster_places.specs.Rows.{HaveRoom}
use Rattle.caster_seats.proofs.SittingLemmas.{less_room}
use Rattle.caster_keep.proofs.DutyLemmas.{begun_all, booth_still, may_begin, the_one}
use Rattle.caster_keep.proofs.FitLemmas.{posts_may}
use Rattle.caster_keep.proofs.LockLemmas.{all_kept, all_of, posts_are, refused_so, seated_places, gates_still, still_as_many, still_known, still_many, still_one, still_places, whole_list, works_back, works_still}
use Rattle.caster_keep.proofs.PorterLemmas.{may_wait}
use Rattle.caster_keep.proofs.locks.keep_at_seats.Goals as goal

pub leave_all-requires-clause-places : goal.leave_all-requires-clause-places
leave_all-requires-clause-places g c κs within =
    seated_places _ c.args.shared.now _ _ c.requires.empty.size c.in-Ok.ensures.seated

pub returns-in_default-clause-kept : goal.returns-in_default-clause-kept
returns-in_default-clause-kept g c =
    works_back c.args.shared.now c.args.keepers.now.items c.leave_all.new.works.items c.sit_all.new.works.items _
    c.in-Ok.ensures.seated c.in-Ok.ensures.taken c.leave_all.ensures.works.works

pub returns-in_default-clause-spare : goal.returns-in_default-clause-spare
returns-in_default-clause-spare g c = λ room.
    c.leave_all.ensures.piles.space 1 (subst (λ (n : ℕ). HaveRoom n c.args.piles.now)
    (let e : length c.args.passes.items + 1 ≡ 1 + length c.in-Ok.hands.items = omega (arith, c.in-Ok.ensures.count) in e)
    room)

pub write_at_once-written-requires-clause-ready : goal.write_at_once-written-requires-clause-ready
write_at_once-written-requires-clause-ready g c κs within =
    let shared = c.args.shared.now in
    let posts = c.take_posts.ensures.posts in
    let begun = begun_all posts.0 c.args.booth c.in-Ok-room_for_posts.posts.items c.take_posts.new.posts.items
    c.push_reserved.new.self.items c.in-Ok-room_for_posts.ensures.empty.0 posts.1 c.push_reserved.ensures.items in
    may_begin _ _ posts.0 c.args.booth c.push_reserved.new.self.items begun
    (posts_may _ shared c.args.keepers.now.items _ posts.0 c.requires.ready c.requires.fresh c.requires.roles
    c.in-Ok.ensures.seated
    (posts_are _ _ shared.config.now _ shared.table.items _ posts.0 (ap (λ (r : _). r.now) c.config.ensures)
    c.table.ensures posts.2))
    (may_wait shared (length c.args.passes.items) _ c.requires.booth.1.0 c.requires.ready c.requires.booth.0
    c.requires.booth.1.1)

pub leave_posts-requires-clause-room : goal.leave_posts-requires-clause-room
leave_posts-requires-clause-room g c κs within =
    let posts = c.take_posts.ensures.posts in
    let begun = begun_all posts.0 c.args.booth c.in-Ok-room_for_posts.posts.items c.take_posts.new.posts.items
    c.push_reserved.new.self.items c.in-Ok-room_for_posts.ensures.empty.0 posts.1 c.push_reserved.ensures.items in
    let many = still_many g.G.Door.told g.G.Gate.over g.G.Gate.peer g.C.Console.told _ _
    c.write_at_once-written.result _ (λ (closed : _). closed.is_torn) (λ (closed : _). g.O.Sink.taken closed.sink)
    (λ (closed : _). g.O.Sink.faults closed.sink) posts.0 c.args.booth c.push_reserved.new.self.items
    c.write_at_once-written.new.works.items begun c.write_at_once-written.ensures.written
    c.write_at_once-written.ensures.kept in
    omega (
      arith,
      many,
      still_as_many _ _ _ posts.0 _ posts.2,
      c.take_posts.ensures.space,
      ap length c.take_posts.ensures.taken,
      c.take_posts.new.hands.ok.0,
      c.in-Ok.hands.ok.0,
      c.in-Ok.hands.ok.1,
    )

pub leave_posts-requires-clause-place : goal.leave_posts-requires-clause-place
leave_posts-requires-clause-place g c κs within =
    let posts = c.take_posts.ensures.posts in
    let begun = begun_all posts.0 c.args.booth c.in-Ok-room_for_posts.posts.items c.take_posts.new.posts.items
    c.push_reserved.new.self.items c.in-Ok-room_for_posts.ensures.empty.0 posts.1 c.push_reserved.ensures.items in
    let one = still_one g.G.Door.told g.G.Gate.over g.G.Gate.peer g.C.Console.told _ _
    c.write_at_once-written.result _ (λ (closed : _). closed.is_torn) (λ (closed : _). g.O.Sink.taken closed.sink)
    (λ (closed : _). g.O.Sink.faults closed.sink) posts.0 c.args.booth c.push_reserved.new.self.items
    c.write_at_once-written.new.works.items begun c.write_at_once-written.ensures.written
    c.write_at_once-written.ensures.kept in
    omega (
      arith,
      ap length one.1,
      ap length c.in-Ok-room_for_posts.ensures.empty.1,
      c.in-Ok-room_for_posts.booths.ok.0,
      c.in-Ok-room_for_posts.ensures.room.1,
    )

pub leave_all-requires-2-clause-room : goal.leave_all-requires-2-clause-room
leave_all-requires-2-clause-room g c κs within =
    let posts = c.take_posts.ensures.posts in
    let begun = begun_all posts.0 c.args.booth c.in-Ok-room_for_posts.posts.items c.take_posts.new.posts.items
    c.push_reserved.new.self.items c.in-Ok-room_for_posts.ensures.empty.0 posts.1 c.push_reserved.ensures.items in
    let many = still_many g.G.Door.told g.G.Gate.over g.G.Gate.peer g.C.Console.told _ _
    c.write_at_once-written.result _ (λ (closed : _). closed.is_torn) (λ (closed : _). g.O.Sink.taken closed.sink)
    (λ (closed : _). g.O.Sink.faults closed.sink) posts.0 c.args.booth c.push_reserved.new.self.items
    c.write_at_once-written.new.works.items begun c.write_at_once-written.ensures.written
    c.write_at_once-written.ensures.kept in
    omega (
      arith,
      many,
      still_as_many _ _ _ posts.0 _ posts.2,
      c.leave_posts.ensures.count,
      c.leave_posts.new.hands.ok.0,
      ap length c.take_posts.ensures.taken,
      c.take_posts.new.hands.ok.0,
      c.in-Ok.ensures.count,
      c.in-Ok.ensures.space,
      ap length c.in-Ok.ensures.taken,
      c.requires.size,
      c.sit_all.new.works.ok.0,
      c.args.keepers.now.ok.0,
      c.args.keepers.now.ok.1,
    )

pub leave_all-requires-2-clause-spare : goal.leave_all-requires-2-clause-spare
leave_all-requires-2-clause-spare g c κs within =
    let posts = c.take_posts.ensures.posts in
    let begun = begun_all posts.0 c.args.booth c.in-Ok-room_for_posts.posts.items c.take_posts.new.posts.items
    c.push_reserved.new.self.items c.in-Ok-room_for_posts.ensures.empty.0 posts.1 c.push_reserved.ensures.items in
    let many = still_many g.G.Door.told g.G.Gate.over g.G.Gate.peer g.C.Console.told _ _
    c.write_at_once-written.result _ (λ (closed : _). closed.is_torn) (λ (closed : _). g.O.Sink.taken closed.sink)
    (λ (closed : _). g.O.Sink.faults closed.sink) posts.0 c.args.booth c.push_reserved.new.self.items
    c.write_at_once-written.new.works.items begun c.write_at_once-written.ensures.written
    c.write_at_once-written.ensures.kept in
    less_room (length c.args.passes.items) _ _
    (omega (
      arith,
      many,
      still_as_many _ _ _ posts.0 _ posts.2,
      c.leave_posts.ensures.count,
      c.leave_posts.new.hands.ok.0,
      ap length c.take_posts.ensures.taken,
      c.take_posts.new.hands.ok.0,
      c.in-Ok.ensures.count,
    )) c.requires.room

pub leave_all-requires-2-clause-places : goal.leave_all-requires-2-clause-places
leave_all-requires-2-clause-places g c κs within =
    let shared = c.args.shared.now in
    let posts = c.take_posts.ensures.posts in
    let begun = begun_all posts.0 c.args.booth c.in-Ok-room_for_posts.posts.items c.take_posts.new.posts.items
    c.push_reserved.new.self.items c.in-Ok-room_for_posts.ensures.empty.0 posts.1 c.push_reserved.ensures.items in
    let at = posts_are _ _ shared.config.now _ shared.table.items _ posts.0 (ap (λ (r : _). r.now) c.config.ensures)
    c.table.ensures posts.2 in
    let back = all_of _ c.leave_posts.new.hands.items c.take_posts.new.hands.items _ c.take_posts.ensures.taken
    c.leave_posts.ensures.hands in
    still_places g.G.Door.told g.G.Gate.over g.G.Gate.peer g.C.Console.told _ _
    c.write_at_once-written.result _ (λ (closed : _). closed.is_torn) (λ (closed : _). g.O.Sink.taken closed.sink)
    (λ (closed : _). g.O.Sink.faults closed.sink) posts.0 c.args.booth c.push_reserved.new.self.items
    c.write_at_once-written.new.works.items begun c.write_at_once-written.ensures.written
    c.write_at_once-written.ensures.kept _ shared shared.table.items c.args.keepers.now.items _ _
    c.requires.empty.size c.in-Ok.ensures.seated at back

pub unreachable-requires : goal.unreachable-requires
unreachable-requires g c =
    let posts = c.take_posts.ensures.posts in
    let begun = begun_all posts.0 c.args.booth c.in-Ok-room_for_posts.posts.items c.take_posts.new.posts.items
    c.push_reserved.new.self.items c.in-Ok-room_for_posts.ensures.empty.0 posts.1 c.push_reserved.ensures.items in
    let one = still_one g.G.Door.told g.G.Gate.over g.G.Gate.peer g.C.Console.told _ _
    c.write_at_once-written.result _ (λ (closed : _). closed.is_torn) (λ (closed : _). g.O.Sink.taken closed.sink)
    (λ (closed : _). g.O.Sink.faults closed.sink) posts.0 c.args.booth c.push_reserved.new.self.items
    c.write_at_once-written.new.works.items begun c.write_at_once-written.ensures.written
    c.write_at_once-written.ensures.kept in
    absurd (omega (arith, ap length one.1, c.leave_posts.ensures.booth_count, c.in_default-pop.ensures.cases.0))

pub destroy_empty-requires : goal.destroy_empty-requires
destroy_empty-requires g c =
    let posts = c.take_posts.ensures.posts in
    let begun = begun_all posts.0 c.args.booth c.in-Ok-room_for_posts.posts.items c.take_posts.new.posts.items
    c.push_reserved.new.self.items c.in-Ok-room_for_posts.ensures.empty.0 posts.1 c.push_reserved.ensures.items in
    let one = still_one g.G.Door.told g.G.Gate.over g.G.Gate.peer g.C.Console.told _ _
    c.write_at_once-written.result _ (λ (closed : _). closed.is_torn) (λ (closed : _). g.O.Sink.taken closed.sink)
    (λ (closed : _). g.O.Sink.faults closed.sink) posts.0 c.args.booth c.push_reserved.new.self.items
    c.write_at_once-written.new.works.items begun c.write_at_once-written.ensures.written
    c.write_at_once-written.ensures.kept in
    omega (
      arith,
      ap length one.1,
      c.leave_posts.ensures.booth_count,
      ap length c.in-Ok-room_for_posts.ensures.empty.1,
      c.in-Ok-room_for_posts.booths.ok.0,
      c.in-Some.ensures.cases,
    )

pub returns-clause-worked : goal.returns-clause-worked
returns-clause-worked g c =
    let shared = c.args.shared.now in
    let posts = c.take_posts.ensures.posts in
    let begun = begun_all posts.0 c.args.booth c.in-Ok-room_for_posts.posts.items c.take_posts.new.posts.items
    c.push_reserved.new.self.items c.in-Ok-room_for_posts.ensures.empty.0 posts.1 c.push_reserved.ensures.items in
    let at = posts_are _ _ shared.config.now _ shared.table.items _ posts.0 (ap (λ (r : _). r.now) c.config.ensures)
    c.table.ensures posts.2 in
    let back = all_of _ c.leave_posts.new.hands.items c.take_posts.new.hands.items _ c.take_posts.ensures.taken
    c.leave_posts.ensures.hands in
    let took = whole_list c.leave_all-2.new.works.items c.sit_all.new.works.items _ c.in-Ok.ensures.taken
    c.leave_all-2.ensures.works.works in
    let one = still_one g.G.Door.told g.G.Gate.over g.G.Gate.peer g.C.Console.told _ _
    c.write_at_once-written.result _ (λ (closed : _). closed.is_torn) (λ (closed : _). g.O.Sink.taken closed.sink)
    (λ (closed : _). g.O.Sink.faults closed.sink) posts.0 c.args.booth c.push_reserved.new.self.items
    c.write_at_once-written.new.works.items begun c.write_at_once-written.ensures.written
    c.write_at_once-written.ensures.kept in
    let last = the_one _ _ c.in-Ok-room_for_posts.booths.items c.leave_posts.new.booths.items
    c.pop.new.self.items c.in-Some.booth one.1 c.in-Ok-room_for_posts.ensures.empty.1 c.leave_posts.ensures.booths
    c.in-Some.ensures.items in
    IfOk-weaker c.write_at_once-written.result _ _ (λ closed written.
    all_kept g.G.Door.told g.G.Gate.over g.G.Gate.peer g.C.Console.told _ _ shared _ closed.is_torn
    (g.O.Sink.taken closed.sink) (g.O.Sink.faults closed.sink) c.args.keepers.now.items
    c.leave_all-2.new.works.items _ _ posts.0 c.args.booth c.in-Some.booth c.push_reserved.new.self.items
    c.write_at_once-written.new.works.items c.args.piles.now c.leave_all-2.new.piles c.requires.ready c.requires.fresh
    c.requires.unused c.requires.roles c.in-Ok.ensures.seated at begun written back last took c.leave_all-2.ensures.left
    c.leave_all-2.ensures.piles.worn c.leave_all-2.ensures.legal c.requires.empty c.requires.none
    (c.leave_all-2.ensures.piles.passes ∙ ap (λ n. length c.args.piles.now.book.items + n) (sym (length-map _ _))))
    c.write_at_once-written.ensures.written

pub returns-clause-kept : goal.returns-clause-kept
returns-clause-kept g c =
    let shared = c.args.shared.now in
    let posts = c.take_posts.ensures.posts in
    let begun = begun_all posts.0 c.args.booth c.in-Ok-room_for_posts.posts.items c.take_posts.new.posts.items
    c.push_reserved.new.self.items c.in-Ok-room_for_posts.ensures.empty.0 posts.1 c.push_reserved.ensures.items in
    let at = posts_are _ _ shared.config.now _ shared.table.items _ posts.0 (ap (λ (r : _). r.now) c.config.ensures)
    c.table.ensures posts.2 in
    let back = all_of _ c.leave_posts.new.hands.items c.take_posts.new.hands.items _ c.take_posts.ensures.taken
    c.leave_posts.ensures.hands in
    refused_so c.write_at_once-written.result (λ same.
    works_still _ shared shared.table.items c.args.keepers.now.items _ _ posts.0 c.sit_all.new.works.items
    c.leave_all-2.new.works.items c.in-Ok.ensures.seated at
    (gates_still _ posts.0 c.args.booth c.push_reserved.new.self.items c.write_at_once-written.new.works.items _ begun
    same back) c.in-Ok.ensures.taken c.leave_all-2.ensures.works.works)
    c.write_at_once-written.ensures.kept

pub returns-clause-waiting : goal.returns-clause-waiting
returns-clause-waiting g c =
    let posts = c.take_posts.ensures.posts in
    let begun = begun_all posts.0 c.args.booth c.in-Ok-room_for_posts.posts.items c.take_posts.new.posts.items
    c.push_reserved.new.self.items c.in-Ok-room_for_posts.ensures.empty.0 posts.1 c.push_reserved.ensures.items in
    refused_so c.write_at_once-written.result (λ same.
    booth_still posts.0 c.args.booth c.in-Some.booth c.push_reserved.new.self.items
    c.write_at_once-written.new.works.items c.in-Ok-room_for_posts.booths.items c.leave_posts.new.booths.items
    c.pop.new.self.items begun same c.in-Ok-room_for_posts.ensures.empty.1 c.leave_posts.ensures.booths
    c.in-Some.ensures.items)
    c.write_at_once-written.ensures.kept

pub returns-clause-known : goal.returns-clause-known
returns-clause-known g c =
    let posts = c.take_posts.ensures.posts in
    let begun = begun_all posts.0 c.args.booth c.in-Ok-room_for_posts.posts.items c.take_posts.new.posts.items
    c.push_reserved.new.self.items c.in-Ok-room_for_posts.ensures.empty.0 posts.1 c.push_reserved.ensures.items in
    let one = still_one g.G.Door.told g.G.Gate.over g.G.Gate.peer g.C.Console.told _ _
    c.write_at_once-written.result _ (λ (closed : _). closed.is_torn) (λ (closed : _). g.O.Sink.taken closed.sink)
    (λ (closed : _). g.O.Sink.faults closed.sink) posts.0 c.args.booth c.push_reserved.new.self.items
    c.write_at_once-written.new.works.items begun c.write_at_once-written.ensures.written
    c.write_at_once-written.ensures.kept in
    let last = the_one _ _ c.in-Ok-room_for_posts.booths.items c.leave_posts.new.booths.items
    c.pop.new.self.items c.in-Some.booth one.1 c.in-Ok-room_for_posts.ensures.empty.1 c.leave_posts.ensures.booths
    c.in-Some.ensures.items in
    still_known g.G.Door.told g.G.Gate.over g.G.Gate.peer g.C.Console.told _ _
    c.write_at_once-written.result _ (λ (closed : _). closed.is_torn) (λ (closed : _). g.O.Sink.taken closed.sink)
    (λ (closed : _). g.O.Sink.faults closed.sink) posts.0 c.args.booth c.push_reserved.new.self.items
    c.write_at_once-written.new.works.items begun c.write_at_once-written.ensures.written
    c.write_at_once-written.ensures.kept c.in-Some.booth last

pub returns-clause-spare : goal.returns-clause-spare
returns-clause-spare g c = λ room.
    let posts = c.take_posts.ensures.posts in
    let begun = begun_all posts.0 c.args.booth c.in-Ok-room_for_posts.posts.items c.take_posts.new.posts.items
    c.push_reserved.new.self.items c.in-Ok-room_for_posts.ensures.empty.0 posts.1 c.push_reserved.ensures.items in
    let many = still_many g.G.Door.told g.G.Gate.over g.G.Gate.peer g.C.Console.told _ _
    c.write_at_once-written.result _ (λ (closed : _). closed.is_torn) (λ (closed : _). g.O.Sink.taken closed.sink)
    (λ (closed : _). g.O.Sink.faults closed.sink) posts.0 c.args.booth c.push_reserved.new.self.items
    c.write_at_once-written.new.works.items begun c.write_at_once-written.ensures.written
    c.write_at_once-written.ensures.kept in
    c.leave_all-2.ensures.piles.space 1 (subst (λ (n : ℕ). HaveRoom n c.args.piles.now)
    (let e : length c.args.passes.items + 1 ≡ 1 + length c.leave_posts.new.hands.items =
    omega (
      arith,
      many,
      still_as_many _ _ _ posts.0 _ posts.2,
      c.leave_posts.ensures.count,
      c.leave_posts.new.hands.ok.0,
      ap length c.take_posts.ensures.taken,
      c.take_posts.new.hands.ok.0,
      c.in-Ok.ensures.count,
    ) in e) room)
