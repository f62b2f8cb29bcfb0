use Rattle.std.proofs.Common.{◌≡◌, ◌∙◌, ◌≤◌, ◌++◌, ℕ, List, [], ◌∷◌, length, set, sym, ap, subst, arith}
use Rattle.std.specs.Prelude.{insert}
use Rattle.std.proofs.lemmas.Result.{on_ok_weaker}
use Rattle.caster_replay.specs.declared.run_connection.RunConnection.{RunConnection}
use Rattle.caster_replay.specs.RunConnections.{IsUnsent, MayBeClosed, SettledAt, opening_of}
use Rattle.caster_replay.specs.Lives.{lives_in}
use Rattle.caster_replay.specs.Scripts.{Stands}
use Rattle.caster_replay.specs.Sends.{Sends}
use Rattle.caster_replay.proofs.EntryLemmas.{names_relay, placed_is, set_insert}
use Rattle.caster_replay.proofs.PlayLemmas.{may_close_opened}
use Rattle.caster_replay.proofs.ReplayLemmas.{places_stay, same_places, same_twice}
use Rattle.caster_replay.proofs.SendsLemmas.{sends_none}
use Rattle.caster_replay.proofs.LivesLemmas.{in_order, looked, sends_placed, stands_again, stands_opened}
use Rattle.caster_replay.proofs.lives.open.Goals as goal

pub returns-then-stands_at : goal.returns-then-stands_at
returns-then-stands_at g c = record {
  same = same_places c.args.desks.now;
  ok = λ script event begins plays.
      stands_again c.args.config.now script event c.args.entries.now.items c.args.desks.now c.args.number
      c.place_of-place.result (opening_of c.args.way) begins plays
      ((looked c.deref.result.now c.deref-2.result.now c.args.entries.now.items c.args.number c.place_of-place.result
      c.stands_at.result c.deref.ensures.value c.deref-2.ensures.value c.place_of-place.ensures.place
      c.stands_at.ensures).here c.if-stands_at.true);
  sends = λ event begins. sends_none event (lives_in c.args.entries.now.items);
}

pub open_connection-requires-clause-relay : goal.open_connection-requires-clause-relay
open_connection-requires-clause-relay g c =
    names_relay c.args.config.now c.requires.run.0 c.requires.run.1 c.requires.run.3.later c.args.number
    (opening_of c.args.way) c.requires.run.3.script_is c.requires.run.2

pub settle-requires : goal.settle-requires
settle-requires g c =
    let config = c.args.config.now in
    let plays = c.requires.run.3 in
    let entry : RunConnection = c.in_ok-entry.entry in
    record {
      may = (
        config,
        places_stay config c.args.desks.now c.open_connection.new.desks c.open_connection.ensures.same plays.places,
        subst (λ (e : RunConnection). MayBeClosed config c.open_connection.new.desks.seen e.state)
            (sym (placed_is c.args.entries.now.items c.insert.new.self.items c.place_of-place.result entry
            c.index_mut.result.now
            (omega (arith, c.place_of-place.ensures.within, ap length c.deref.ensures.value))
            c.in_ok-insert.ensures.items c.index_mut.ensures.value))
            (may_close_opened config c.args.desks.now.seen c.open_connection.new.desks.seen c.args.number
            (opening_of c.args.way) entry.state entry.bytes.items c.in_ok-entry.ensures.opened),
      );
    }

pub returns : goal.returns
returns g c =
    let config = c.args.config.now in
    let entries : List RunConnection = c.args.entries.now.items in
    let place : ℕ = c.place_of-place.result in
    let entry : RunConnection = c.in_ok-entry.entry in
    let next : RunConnection = c.settle.new.self in
    let look = looked c.deref.result.now c.deref-2.result.now entries c.args.number place c.stands_at.result
    c.deref.ensures.value c.deref-2.ensures.value c.place_of-place.ensures.place c.stands_at.ensures in
    let within : place ≤ length entries =
    omega (arith, c.place_of-place.ensures.within, ap length c.deref.ensures.value) in
    let there : c.index_mut.result.now ≡ entry =
    placed_is entries c.insert.new.self.items place entry c.index_mut.result.now within c.in_ok-insert.ensures.items
    c.index_mut.ensures.value in
    let number : next.number ≡ entry.number = c.settle.ensures.number ∙ ap (λ (e : RunConnection). e.number) there in
    let bytes : next.bytes.items ≡ entry.bytes.items =
    c.settle.ensures.bytes ∙ ap (λ (e : RunConnection). e.bytes.items) there in
    let all : set c.insert.new.self.items place next ≡ insert entries place next =
    ap (λ (l : List RunConnection). set l place next) c.in_ok-insert.ensures.items
    ∙ set_insert entries place entry next within in
    let settled = c.settle.ensures.settled config
    (places_stay config c.args.desks.now c.open_connection.new.desks c.open_connection.ensures.same c.requires.run.3.places) in
    record {
      same = same_twice c.args.desks.now c.open_connection.new.desks c.settle.new.desks c.open_connection.ensures.same
          c.settle.ensures.same;
      ok = λ script event begins plays.
          on_ok_weaker c.settle.result (λ so.
          subst (λ (l : List RunConnection). Stands config (script ++ event ∷ []) l c.settle.new.desks) (sym all)
          (stands_opened config script event entries c.args.desks.now c.open_connection.new.desks c.settle.new.desks
          c.args.number place (opening_of c.args.way) entry next begins plays (look.absent c.if-stands_at.false)
          look.place_is c.open_connection.ensures.same c.settle.ensures.same c.in_ok-entry.ensures.number number bytes
          c.in_ok-entry.ensures.opened
          (subst (λ (e : RunConnection). SettledAt config c.open_connection.new.desks.seen c.settle.new.desks.seen e.state next.state)
          there so))) settled;
      sends = λ event begins.
          on_ok_weaker c.settle.result (λ so.
          subst (λ (l : List RunConnection). Sends event (lives_in entries) (lives_in l)) (sym all)
          (sends_placed event c.args.number place (opening_of c.args.way) entries next begins
          (look.absent c.if-stands_at.false) look.place_is (number ∙ c.in_ok-entry.ensures.number)
          (subst (IsUnsent (opening_of c.args.way)) (sym bytes) c.in_ok-entry.ensures.unsent))) settled;
    }

pub place_of-place-requires : goal.place_of-place-requires
place_of-place-requires g c = record {
  order = in_order c.args.config.now c.requires.run.0 c.args.entries.now.items c.deref.result.now c.args.desks.now.seen
      c.requires.run.3.runs
      c.deref.ensures.value;
}
