use Rattle.std.proofs.Common.{◌≡◌, ◌++◌}
use Rattle.session_make.specs.Rounds.{round_start, rounds, opening}
use Rattle.session_make.proofs.making.make.Given as goal

abbrev pub invariant-loop : goal.invariant-loop
invariant-loop l = record {
  events : l.events.items ≡ opening l.rovers ++ rounds l.seed l.counter l.rovers;
  state : l.draws.state ≡ round_start l.seed l.counter;
}
