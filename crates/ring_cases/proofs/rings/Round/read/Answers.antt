use Rattle.turn_log.specs.Desks.{desk_seen}
use Rattle.std.proofs.Common.{◌∙◌, sym}
use Rattle.mount_ring.specs.Kept.{ring_shape}
use Rattle.mount_ring.proofs.RoundLemmas.{held_read, read_read, held_refused, read_refused}
use Rattle.ring_cases.proofs.rings.Round.read.Goals as goal

pub invariant_of-self : goal.invariant_of-self
invariant_of-self c = record {
  held = held_refused (desk_seen c.args.self.now.desk) (desk_seen c.turn.new.self) c.in_err-report.ensures.err.0
      c.args.self.now.held;
  joined = read_refused (ring_shape c.args.self.now.desk.value) (ring_shape c.turn.new.self.value)
      (desk_seen c.args.self.now.desk)
      (desk_seen c.turn.new.self) c.args.self.now.cursor c.turn.ensures.shape c.in_err-report.ensures.err.0
      c.args.self.now.joined;
}

pub invariant_of-self-in-Read : goal.invariant_of-self-in-Read
invariant_of-self-in-Read c = record {
  held = held_read (desk_seen c.args.self.now.desk) (desk_seen c.turn.new.self) c.args.self.now.cursor c.args.budget
      c.in_ok-report.ensures.ok.0 c.args.self.now.held;
  joined = read_read (ring_shape c.args.self.now.desk.value) (ring_shape c.turn.new.self.value)
      (desk_seen c.args.self.now.desk)
      (desk_seen c.turn.new.self) c.args.self.now.cursor c.args.budget c.in-Read.report c.turn.ensures.shape
      c.in_ok-report.ensures.ok.0
      c.args.self.now.joined (sym c.in-Read.is ∙ c.in_ok-report.ensures.ok.1);
}
