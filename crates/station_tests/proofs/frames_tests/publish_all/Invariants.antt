-- The place stays where it is, and the caller goes on to hold the mountpoint.
use Rattle.std.specs.Prelude.{IsTrue}
use Rattle.turn_log.specs.Turn.{SamePlace}
use Rattle.mount_ring.specs.History.{state_of, is_holder}
use Rattle.station_tests.proofs.frames_tests.publish_all.Given as goal

abbrev pub invariant-loop-bytes : goal.invariant-loop-bytes
invariant-loop-bytes g l = record {
  same : SamePlace g.T.Turns.shape g.T.Turns.speaks g.T.Turns.may_lack g.T.Turns.alone g.T.Turns.home
      l.fn.place l.place;
  speaks : IsTrue (g.T.Turns.speaks l.place l.me);
  held : IsTrue (is_holder (state_of (g.T.Turns.seen l.place)).holder l.me l.number);
}
