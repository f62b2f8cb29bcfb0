-- What a desk keeps of its history, for clauses alone.
use Rattle.std.specs.Prelude.{[], Option, Some, None}
use Rattle.std.specs.declared.snapshot.Snapshot.{Snapshot}
use Rattle.turn_log.specs.History.{History}

-- the calls up to the last one that was kept, or none
abbrev pub so_far : {C : Type 0} → Option (Snapshot (History C)) → History C
so_far None = []
so_far (Some past) = past.value
