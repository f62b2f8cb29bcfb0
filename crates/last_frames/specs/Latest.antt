-- What a station keeps of one message number.
use Rattle.std.specs.Prelude.{ℕ, if◌then◌else◌, Bool, List, map, Some}
use Rattle.std.specs.List.{flat_map}
use Rattle.mount_ring.specs.declared.call.RingCall.{RingCall}
use Rattle.mount_ring.specs.declared.call.RingCall.TheVariants.{Claim, Release, Publish, Join, Look, Read}
use Rattle.last_frames.specs.declared.latest.Latest.{Latest}
use Rattle.last_frames.specs.Last.{has_number, last_of, if_permitted}

-- once these frames were published
abbrev pub latest_of : List (List ℕ) → ℕ → Latest
latest_of published number = record { number = number; frame = last_of number published }

-- after one more frame
abbrev pub noted : List ℕ → Latest → Latest
noted frame latest = record {
  number = latest.number;
  frame = if has_number latest.number frame then Some frame else latest.frame;
}

-- after a call
abbrev pub noted_by : RingCall → List Latest → List Latest
noted_by Claim kept = kept
noted_by (Release claim) kept = kept
noted_by (Publish claim frame) kept = map (noted frame) kept
noted_by (Join filter) kept = kept
noted_by Look kept = kept
noted_by (Read cursor budget) kept = kept

-- the permitted ones of the frames that are kept
abbrev pub permitted_of : (List ℕ → Bool) → List Latest → List (List ℕ)
permitted_of permits kept = flat_map (λ (latest : Latest). if_permitted permits latest.frame) kept
