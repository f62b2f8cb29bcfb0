use Rattle.std.proofs.Common.{◌∙◌, ◌++◌, ℕ, List, [], ◌∷◌, ap}
use Rattle.std.proofs.lemmas.Result.{on_ok_weaker}
use Rattle.caster_replay.specs.declared.run_connection.RunConnection.{RunConnection}
use Rattle.caster_replay.specs.Lives.{live_in, lives_in}
use Rattle.caster_replay.proofs.EntryLemmas.{within_lives, here_at, room_for}
use Rattle.caster_replay.proofs.PlayLemmas.{may_apply, play_applied}
use Rattle.caster_replay.proofs.ReplayLemmas.{places_stay, same_places}
use Rattle.caster_replay.proofs.SendsLemmas.{sends_none}
use Rattle.caster_replay.proofs.LivesLemmas.{about_act, in_order, looked, runs_put, sends_applied, stands_absent}
use Rattle.caster_replay.proofs.lives.apply.Goals as goal

pub returns-then-not-stands_at : goal.returns-then-not-stands_at
returns-then-not-stands_at g c = record {
  same = same_places c.args.desks.now;
  ok = λ script event so plays.
      let about = about_act event c.args.number c.args.act so in
      stands_absent c.args.config.now script event c.args.entries.now.items c.args.desks.now c.args.number about.0
      about.1 plays
      ((looked c.deref.result.now c.deref-2.result.now c.args.entries.now.items c.args.number c.place_of-place.result
      c.stands_at.result c.deref.ensures.value c.deref-2.ensures.value c.place_of-place.ensures.place
      c.stands_at.ensures).absent c.if-not-stands_at.true);
  sends = λ event so. sends_none event (lives_in c.args.entries.now.items);
}

pub apply-requires-clause-may : goal.apply-requires-clause-may
apply-requires-clause-may g c =
    let config = c.args.config.now in
    let script = c.requires.run.0 in
    let event = c.requires.run.1 in
    let plays = c.requires.run.3 in
    let entry : RunConnection = c.index_mut.result.now in
    let entries : List RunConnection = c.args.entries.now.items in
    let place : ℕ = c.place_of-place.result in
    let there = (looked c.deref.result.now c.deref-2.result.now entries c.args.number place c.stands_at.result
    c.deref.ensures.value c.deref-2.ensures.value c.place_of-place.ensures.place c.stands_at.ensures).here
    c.if-not-stands_at.false in
    may_apply config script (lives_in entries) c.args.desks.now.seen c.args.number place (live_in entry)
    entry.bytes.items plays.runs (within_lives entries place there.0) event c.args.act entry.state c.requires.run.2
    (here_at entries place c.args.number entry there c.index_mut.ensures.value)
    (room_for config script event entries c.args.desks.now plays)

pub returns : goal.returns
returns g c = record {
  same = c.apply.ensures.same;
  ok = λ script event so plays.
      let config = c.args.config.now in
      let entry : RunConnection = c.index_mut.result.now in
      let entries : List RunConnection = c.args.entries.now.items in
      let place : ℕ = c.place_of-place.result in
      let there = (looked c.deref.result.now c.deref-2.result.now entries c.args.number place c.stands_at.result
      c.deref.ensures.value c.deref-2.ensures.value c.place_of-place.ensures.place c.stands_at.ensures).here
      c.if-not-stands_at.false in
      on_ok_weaker c.apply.result (λ acted. record {
        places = places_stay config c.args.desks.now c.apply.new.desks c.apply.ensures.same plays.places;
        runs = runs_put config (script ++ event ∷ []) entries place c.args.number c.apply.new.self
            c.apply.new.desks.seen
            (c.apply.ensures.number ∙ ap (λ (e : RunConnection). e.number) c.index_mut.ensures.value ∙ there.1 entry)
            (play_applied config script (lives_in entries) c.args.desks.now.seen c.args.number place (live_in entry)
            entry.bytes.items plays.runs (within_lives entries place there.0) event c.args.act c.apply.new.desks.seen
            entry.state c.apply.new.self.state c.apply.new.self.bytes.items so
            (here_at entries place c.args.number entry there c.index_mut.ensures.value) acted);
      }) c.apply.ensures.acted;
  sends = λ event so.
      let config = c.args.config.now in
      let entry : RunConnection = c.index_mut.result.now in
      let entries : List RunConnection = c.args.entries.now.items in
      let place : ℕ = c.place_of-place.result in
      let look = looked c.deref.result.now c.deref-2.result.now entries c.args.number place c.stands_at.result
      c.deref.ensures.value c.deref-2.ensures.value c.place_of-place.ensures.place c.stands_at.ensures in
      let there = look.here c.if-not-stands_at.false in
      on_ok_weaker c.apply.result (λ acted.
      sends_applied config c.requires.run.0 event c.args.act entries c.args.desks.now.seen c.apply.new.desks.seen place
      c.args.number entry c.apply.new.self so c.requires.run.3.runs there look.place_is
      (here_at entries place c.args.number entry there c.index_mut.ensures.value)
      (c.apply.ensures.number ∙ ap (λ (e : RunConnection). e.number) c.index_mut.ensures.value ∙ there.1 entry) acted)
      c.apply.ensures.acted;
}

pub place_of-place-requires : goal.place_of-place-requires
place_of-place-requires g c = record {
  order = in_order c.args.config.now c.requires.run.0 c.args.entries.now.items c.deref.result.now c.args.desks.now.seen
      c.requires.run.3.runs
      c.deref.ensures.value;
}
