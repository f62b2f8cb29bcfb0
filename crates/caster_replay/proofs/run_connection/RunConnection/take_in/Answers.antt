use Rattle.std.proofs.Common.{◌∙◌, List, ℕ, sym, subst}
use Rattle.std.proofs.lemmas.Result.{on_ok_weaker}
use Rattle.caster_replay.specs.RunConnections.{FedAt}
use Rattle.caster_replay.proofs.PlayLemmas.{may_close_fed}
use Rattle.caster_replay.proofs.ReplayLemmas.{places_stay, same_twice}
use Rattle.caster_replay.proofs.run_connection.RunConnection.take_in.Goals as goal

pub settle-requires : goal.settle-requires
settle-requires g c = record {
  may = (
    c.args.config.now,
    places_stay c.args.config.now c.args.desks.now c.feed.new.desks c.feed.ensures.same c.requires.places,
    may_close_fed c.args.config.now c.args.desks.now.seen c.feed.new.desks.seen c.args.self.now.state
        c.feed.new.self.state c.args.bytes.now c.args.self.now.bytes.items c.feed.new.self.bytes.items c.requires.may
        c.feed.ensures.fed,
  );
}

pub returns : goal.returns
returns g c = record {
  same = same_twice c.args.desks.now c.feed.new.desks c.settle.new.desks c.feed.ensures.same c.settle.ensures.same;
  number = c.settle.ensures.number ∙ c.feed.ensures.number;
  taken = on_ok_weaker c.settle.result (λ settled. record {
    mid = c.feed.new.desks.seen;
    between = c.feed.new.self.state;
    fed = subst (λ (b : List ℕ). FedAt c.args.config.now c.args.desks.now.seen c.feed.new.desks.seen
        c.args.self.now.state c.feed.new.self.state c.args.bytes.now c.args.self.now.bytes.items b)
        (sym c.settle.ensures.bytes) c.feed.ensures.fed;
    settled = settled;
  }) (c.settle.ensures.settled c.args.config.now
      (places_stay c.args.config.now c.args.desks.now c.feed.new.desks c.feed.ensures.same c.requires.places));
}
