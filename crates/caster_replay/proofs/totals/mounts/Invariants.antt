-- the totals so far
use Rattle.std.proofs.Common.{◌≡◌, map, take}
use Rattle.session_model.specs.Reports.{mount_total}
use Rattle.caster_replay.proofs.totals.mounts.Given as goal

abbrev pub invariant-loop-place : goal.invariant-loop-place
invariant-loop-place g l = l.totals.items ≡ map mount_total (take l.place-index (map g.P.Turns.seen l.places))
