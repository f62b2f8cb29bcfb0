-- What a ring counts for one of its filters: the permitted frames that were published, and those
-- of them that it no longer keeps.
use Rattle.std.specs.Prelude.{ℕ, ◌+◌, ◌-◌, ◌^◌, min, List, [], ◌∷◌, take, Option}
use Rattle.std.specs.Option.{option_to_list}
use Rattle.type_filter.specs.Permitted.{FilterValue, count}
use Rattle.mount_ring.specs.declared.watch.Watch.{Watch}
use Rattle.mount_ring.specs.Reads.{oldest}

-- before the first frame
abbrev pub unseen : FilterValue → Watch
unseen filter = record { filter = filter; permitted = 0; dropped = 0 }

-- a count that stays at the last value of a u64
abbrev pub capped : ℕ → ℕ
capped n = min n (2 ^ 64 - 1)

-- after one more frame, for which another one may have been dropped
abbrev pub counted : List ℕ → Option (List ℕ) → Watch → Watch
counted frame fallen watch = record {
  filter = watch.filter;
  permitted = capped (watch.permitted + count watch.filter (frame ∷ []));
  dropped = capped (watch.dropped + count watch.filter (option_to_list fallen));
}

-- in a ring of this capacity, once these frames were published
abbrev pub watch_of : ℕ → List (List ℕ) → FilterValue → Watch
watch_of capacity published filter = record {
  filter = filter;
  permitted = count filter published;
  dropped = count filter (take (oldest capacity published) published);
}
