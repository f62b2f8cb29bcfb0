use Rattle.std.proofs.Common.{◌∙◌, ◌<◌, ◌++◌, List, length, map, set, take, sym, subst, arith}
use Rattle.std.proofs.lemmas.List.{take_all, length-map}
use Rattle.session_model.specs.declared.ending.Last.TheVariants as lasts
use Rattle.caster_replay.specs.declared.run_connection.RunConnection.{RunConnection}
use Rattle.caster_replay.specs.RunConnections.{AreOver, MayBeClosed}
use Rattle.caster_replay.specs.Lives.{Live, end_of, live_in, lives_in}
use Rattle.caster_replay.specs.Scripts.{Stands}
use Rattle.caster_replay.proofs.EntryLemmas.{closed_put}
use Rattle.caster_replay.proofs.LivesLemmas.{silent_closed}
use Rattle.caster_replay.proofs.ReplayLemmas.{closes_next, may_close_at, over_next, same_count}
use Rattle.caster_replay.proofs.lives.close_all.Goals as goal

pub close-requires : goal.close-requires
close-requires g c =
    let config = c.requires.run.0 in
    let entries : List RunConnection = c.loop-place.entries.items in
    let so_far = c.loop-place.invariant.closes config c.requires.run.1 c.requires.run.2 c.requires.run.3 in
    let within : c.loop-place.place < length entries =
    omega (arith, c.loop-place-test.true, c.len-place-end.ensures, c.loop-place.invariant.count) in
    record {
      may = (
        config,
        so_far.stands.places,
        subst (λ (e : RunConnection). MayBeClosed config c.loop-place.desks.seen e.state) (sym c.index_mut.ensures.value)
            (may_close_at config (c.requires.run.1 ++ map end_of (take c.loop-place.place (lives_in entries))) entries
            c.loop-place.desks c.loop-place.place c.index_mut.result.now within so_far.short so_far.stands),
      );
    }

pub loop-place-preserved : goal.loop-place-preserved
loop-place-preserved g c =
    let config = c.requires.run.0 in
    let entries : List RunConnection = c.loop-place.entries.items in
    let so_far = c.loop-place.invariant.closes config c.requires.run.1 c.requires.run.2 c.requires.run.3 in
    let within : c.loop-place.place < length entries =
    omega (arith, c.loop-place-test.true, c.len-place-end.ensures, c.loop-place.invariant.count) in
    let place = c.loop-place.place in
    let d : RunConnection = c.index_mut.result.now in
    let after : List RunConnection = set entries place c.close.new.self in
    let closed = closed_put config c.loop-place.desks.seen c.close.new.desks.seen lasts.End place entries d d
    c.close.new.self within c.index_mut.ensures.value c.close.ensures.number c.close.ensures.bytes
    (c.in_ok-close.ensures.closed config so_far.stands.places) in
    record {
      count = same_count config c.requires.run.1 entries after c.loop-place.desks c.close.new.desks place d within closed
          ∙ c.loop-place.invariant.count;
      over = over_next config c.requires.run.1 entries after c.loop-place.desks c.close.new.desks place d within closed
          c.loop-place.invariant.over;
      closes = λ any script short stands.
          let before = c.loop-place.invariant.closes any script short stands in
          closes_next any script entries after c.loop-place.desks c.close.new.desks place d within
          (closed_put any c.loop-place.desks.seen c.close.new.desks.seen lasts.End place entries d d c.close.new.self
          within c.index_mut.ensures.value c.close.ensures.number c.close.ensures.bytes
          (c.in_ok-close.ensures.closed any before.stands.places))
          c.close.ensures.same before;
      silent = λ n.
          silent_closed config c.loop-place.desks.seen c.close.new.desks.seen lasts.End place entries after d within
          closed n ∙ c.loop-place.invariant.silent n;
    }

pub returns-clause-ok : goal.returns-clause-ok
returns-clause-ok g c = λ config script short stands.
    subst (λ (l : List Live). Stands config (script ++ map end_of l) c.loop-place.entries.items c.loop-place.desks)
    (take_all c.loop-place.place (lives_in c.loop-place.entries.items)
    (omega (
      arith,
      c.loop-place-test.false,
      c.len-place-end.ensures,
      c.loop-place.invariant.count,
      length-map c.loop-place.entries.items live_in,
    )))
    (c.loop-place.invariant.closes config script short stands).stands

pub returns-clause-over : goal.returns-clause-over
returns-clause-over g c =
    subst AreOver
    (take_all c.loop-place.place (lives_in c.loop-place.entries.items)
    (omega (
      arith,
      c.loop-place-test.false,
      c.len-place-end.ensures,
      c.loop-place.invariant.count,
      length-map c.loop-place.entries.items live_in,
    )))
    c.loop-place.invariant.over

pub returns-clause-silent : goal.returns-clause-silent
returns-clause-silent g c = c.loop-place.invariant.silent
