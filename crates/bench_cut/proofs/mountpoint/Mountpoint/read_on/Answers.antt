use Rattle.turn_log.specs.Desks.{desk_seen}
use Rattle.std.proofs.Common.{◌∙◌, sym}
use Rattle.mount_ring.specs.Kept.{ring_shape}
use Rattle.mount_ring.proofs.RoundLemmas.{held_read, read_read, held_refused, read_refused}
use Rattle.bench_cut.proofs.mountpoint.Mountpoint.read_on.Goals as goal

pub invariant_of-self : goal.invariant_of-self
invariant_of-self c =
    let old = c.args.self.now in
    let new = c.turn.new.self in
    record {
      held = held_refused (desk_seen old.desk) (desk_seen new) c.in_err-report.ensures.err.0 old.held;
      joined = read_refused (ring_shape old.desk.value) (ring_shape new.value) (desk_seen old.desk) (desk_seen new)
          old.cursor c.turn.ensures.shape c.in_err-report.ensures.err.0 old.joined;
    }

pub invariant_of-self-in-Read : goal.invariant_of-self-in-Read
invariant_of-self-in-Read c =
    let old = c.args.self.now in
    let new = c.turn.new.self in
    record {
      held = held_read (desk_seen old.desk) (desk_seen new) old.cursor 16 c.in_ok-report.ensures.ok.0 old.held;
      joined = read_read (ring_shape old.desk.value) (ring_shape new.value) (desk_seen old.desk) (desk_seen new)
          old.cursor 16 c.in-Read.report c.turn.ensures.shape c.in_ok-report.ensures.ok.0 old.joined
          (sym c.in-Read.is ∙ c.in_ok-report.ensures.ok.1);
    }
