-- No byte of the piece was taken yet, and the stop and QUIET are heeded as before, and
-- the room was told of nothing.
use Rattle.std.proofs.Common.{◌≡◌, [], option_map}
use Rattle.caster_net.specs.Rooms.{measured}
use Rattle.caster_net.specs.Told.{Took}
use Rattle.caster_net.proofs.wire.Wire.write_late.Given as goal

abbrev pub invariant-loop : goal.invariant-loop
invariant-loop g l = record {
  took : Took g.S.Write.contents l.fn.self l.self [];
  keep : l.heed.keep ≡ l.fn.heed.keep;
  room : option_map measured l.heed.room ≡ option_map measured l.fn.heed.room;
}
