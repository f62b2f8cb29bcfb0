-- Each write so far was interrupted, and took nothing.
use Rattle.std.proofs.Common.{◌≡◌}
use Rattle.std.specs.Io.KnownBytes.{Keeps}
use Rattle.caster_net.proofs.adapters.WriterSink.write_some.Given as goal

abbrev pub invariant-tries : goal.invariant-tries
invariant-tries g l = record {
  kept : Keeps (g.W.Write.contents l.fn.self.writer) (g.W.Write.contents l.self-inside.writer);
  taken : l.self-inside.taken ≡ l.fn.self.taken;
  faults : l.self-inside.faults ≡ l.fn.self.faults;
}
