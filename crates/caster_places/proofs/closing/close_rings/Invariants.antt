-- What is left goes together. The rings closed so far have their totals, and with the piles that are
-- left all piles are those of the rings.
use Rattle.std.proofs.Common.{◌≡◌, ◌++◌, ◌+◌, ◌≤◌, List, length, map, vec_len, vec_capacity}
use Rattle.std.specs.Vec.Iter.{into_iter_items, into_iter_len}
use Rattle.turn_log.specs.History.{History}
use Rattle.mount_ring.specs.declared.call.RingCall.{RingCall}
use Rattle.session_model.specs.Reports.{mount_total}
use Rattle.caster_places.proofs.PileLemmas.{AllClosed, AllClosing}
use Rattle.caster_places.proofs.closing.close_rings.Given as goal

abbrev pub invariant-loop-lock : goal.invariant-loop-lock
invariant-loop-lock l = record {
  all : AllClosing (into_iter_items l.piles) (into_iter_items l.locks);
  closed : (wholes : List (History RingCall)) × (l.totals.items ≡ l.fn.totals.items ++ map mount_total wholes)
      × ((more : List (History RingCall)) → AllClosed (into_iter_items l.piles) more
      → AllClosed l.fn.piles.items (wholes ++ more));
  room : vec_len l.totals + into_iter_len l.locks ≤ vec_capacity l.totals;
  wide : vec_capacity l.fn.totals ≤ vec_capacity l.totals;
  many : vec_len l.totals + into_iter_len l.locks ≡ vec_len l.fn.totals + length l.fn.locks.items;
}

abbrev pub decreases-loop-lock : goal.decreases-loop-lock
decreases-loop-lock l = into_iter_len l.locks
