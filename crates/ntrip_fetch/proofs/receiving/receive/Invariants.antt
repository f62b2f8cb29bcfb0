-- all that the link gave was taken
use Rattle.std.proofs.Common.{◌≡◌, ◌+◌, ◌<◌, ◌^◌, length}
use Rattle.ntrip_fetch.specs.Fetched.{Receiving}
use Rattle.ntrip_fetch.proofs.receiving.receive.Given as goal

abbrev pub invariant-loop : goal.invariant-loop
invariant-loop g l = record {
  can : (goal.iterator-loop g).can_next l.iterator';
  finite : (goal.iterator-loop g).is_finite l.iterator';
  size : length l.piece ≡ 4096;
  few : l.given < 2 ^ 62 + 4096;
  unharmed : g.O.Sink.faults l.out ≡ g.O.Sink.faults l.fn.out;
  receiving : Receiving l.most (g.L.Link.told l.fn.link) (g.L.Link.told l.link) (g.O.Sink.taken l.fn.out)
      (g.O.Sink.taken l.out) l.stage l.frames l.given;
}
