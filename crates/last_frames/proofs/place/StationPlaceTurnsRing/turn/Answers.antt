-- The greeting goes on by the call that was made, behind what others called before it.
use Rattle.std.proofs.Common.{◌++◌, ◌∙◌, ap, subst, IsTrue, Bool, length}
use Rattle.mount_ring.specs.History.{state_of}
use Rattle.mount_ring.specs.Shapes.{shape_of}
use Rattle.last_frames.specs.Placed.{InHall, Placed}
use Rattle.last_frames.specs.Station.{filled}
use Rattle.last_frames.specs.Greeted.{greeted_by, greeting_from}
use Rattle.last_frames.proofs.GreetedLemmas.{greeted_alone, greeting_taken, longer}
use Rattle.last_frames.proofs.place.StationPlaceTurnsRing.turn.Goals as goal

pub invariant_of-self-2 : goal.invariant_of-self-2
invariant_of-self-2 g c =
    let turned = c.in_ok-answer.ensures.ok in
    let same = c.in_ok-answer.ensures.same in
    let place = c.self.inside in
    let old = g.T.Turns.seen place.inner in
    let shape = g.T.Turns.shape place.inner in
    let state = state_of (old ++ turned.others) in
    let count = length (g.T.Turns.seen place.since.value) in
    let taken = c.hand_over.ensures.greeting
    ∙ ap (λ (hall : InHall). greeting_from c.args.call hall.greeting place.greeting) turned.room
    ∙ ap (λ (hall : InHall). greeting_from c.args.call (filled (shape_of shape) state c.args.call hall).greeting
    place.greeting) c.new-hall.ensures
    ∙ greeting_taken (shape_of shape) state c.args.call place.greeting
    in (
      longer count old turned.others (g.T.Turns.seen c.turn.new.self) (c.args.me, c.args.call) turned.seen
          c.self.invariant.0,
      λ alone.
          let was_alone = subst (λ (b : Bool). IsTrue b) same.3 alone in
          greeted_alone shape (g.T.Turns.shape c.turn.new.self) count old turned.others
          (g.T.Turns.seen c.turn.new.self) c.args.me c.args.call place.greeting c.hand_over.new.greeting
          same.0 turned.seen (turned.nothing_between was_alone) c.self.invariant.0 taken
          (c.self.invariant.1 was_alone),
    )

pub returns-clause-greeted : goal.returns-clause-greeted
returns-clause-greeted g c =
    let turned = c.in_ok-answer.ensures.ok in
    let place = c.self.inside in
    let history = g.T.Turns.seen place.inner ++ turned.others in
    let shape = g.T.Turns.shape place.inner in (
      history,
      turned.seen,
      c.hand_over.ensures.greeting
          ∙ ap (λ (hall : InHall). greeting_from c.args.call hall.greeting place.greeting) turned.room
          ∙ ap (λ (hall : InHall). greeting_from c.args.call
          (filled (shape_of shape) (state_of history) c.args.call hall).greeting place.greeting) c.new-hall.ensures
          ∙ greeting_taken (shape_of shape) (state_of history) c.args.call place.greeting
          ∙ ap (λ (p : Placed _). greeted_by (shape_of (g.T.Turns.shape p.inner)) (state_of history) c.args.call
          p.greeting) c.self.view_is,
    )
