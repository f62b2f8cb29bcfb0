-- Near rovers of two bases, as the definitions compute them: the mountpoint 0 stands at 48.1173
-- degrees north, the mountpoint 1 at 48.2, both at 11.5166666 east.
use Rattle.std.proofs.Common.{◌≡◌, ℕ, true, List, [], ◌∷◌, Option, None, Some, refl}
use Rattle.std.specs.Prelude.{pos}
use Rattle.gga_read.specs.declared.Position.{Position}
use Rattle.base_select.specs.Measure.{measure_of}
use Rattle.mount_ring.specs.declared.cursor.Cursor.{Cursor}
use Rattle.mount_ring.specs.declared.call.RingCall.TheVariants.{Join, Look}
use Rattle.mount_ring.specs.declared.call.RingCall.TheVariants as calls
use Rattle.mount_ring.specs.declared.call.RingAnswer.TheVariants.{Joined, Looked}
use Rattle.mount_ring.specs.declared.call.RingAnswer.TheVariants as answers
use Rattle.rover_cursor.specs.declared.segment.Segment.{Segment}
use Rattle.session_calls.specs.Steps.{Step, at_ring}
use Rattle.session_calls.specs.Plans.{IsMade}
use Rattle.rover_session.specs.Owed.{Terms, follows}
use Rattle.rover_session.specs.Made.{segments_after, owed_among}

abbrev south : Position
south = record { lat = pos 481173000; lon = pos 115166666 }

abbrev north : Position
north = record { lat = pos 482000000; lon = pos 115166666 }

abbrev terms : Terms
terms = record {
  near = true;
  filter = 0;
  hysteresis = 10;
  bases = record { mount = 0; at = south } ∷ record { mount = 1; at = north } ∷ [];
}

-- a cursor behind so many frames, all permitted
abbrev behind : ℕ → Cursor
behind n = record { next = n; passed = n; filter = 0 }

abbrev looked : ℕ → Option ℕ → Step
looked mount live = at_ring mount Look (Looked live)

abbrev joined : ℕ → ℕ → Step
joined mount n = at_ring mount (Join 0) (Joined (behind n))

-- a read of one frame
abbrev read_one : ℕ → ℕ → ℕ → Step
read_one mount from to =
    at_ring mount (calls.Read (behind from) 16)
    (answers.Read (record { cursor = behind to; lapped = None; taken = 1 }))

-- a segment without a lap
abbrev segment : ℕ → ℕ → ℕ → ℕ → Segment
segment mount from to sent = record {
  mount = mount;
  from = from;
  to = to;
  sent = sent;
  overrun = 0;
  laps = [];
  cursor = behind to;
}

-- both bases are held, and the rover goes there and back
abbrev there_and_back : List Step
there_and_back =
    looked 0 (Some 1) ∷ looked 1 (Some 1) ∷ joined 0 1 ∷ read_one 0 1 2
    ∷ looked 0 (Some 1) ∷ looked 1 (Some 1) ∷ joined 1 1 ∷ read_one 1 1 2
    ∷ looked 0 (Some 1) ∷ looked 1 (Some 1) ∷ joined 0 3 ∷ read_one 0 3 4 ∷ []

there_and_back_owed : IsMade (follows terms None (south ∷ north ∷ south ∷ [])) (owed_among there_and_back)
unfolding measure_of
there_and_back_owed = (refl, (refl, (refl, (refl, (refl, (refl, (refl, (refl, (refl, refl)))))))))

there_and_back_segments : segments_after [] there_and_back
    ≡ segment 0 3 4 1 ∷ segment 1 1 2 1 ∷ segment 0 1 2 1 ∷ []
there_and_back_segments = refl

-- the rover stays in the north; its base is held from the second report on, and lost before the
-- third, and before the fourth no base is held
abbrev base_comes_and_goes : List Step
base_comes_and_goes =
    looked 0 (Some 1) ∷ looked 1 None ∷ joined 0 0 ∷ read_one 0 0 1
    ∷ looked 0 (Some 1) ∷ looked 1 (Some 1) ∷ joined 1 1 ∷ read_one 1 1 2
    ∷ looked 0 (Some 1) ∷ looked 1 None ∷ joined 0 1
    ∷ looked 0 None ∷ looked 1 None ∷ []

comes_and_goes_owed : IsMade (follows terms None (north ∷ north ∷ north ∷ north ∷ [])) (owed_among base_comes_and_goes)
unfolding measure_of
comes_and_goes_owed = (refl, (refl, (refl, (refl, (refl, (refl, (refl, (refl, (refl, (refl, (refl, refl)))))))))))

comes_and_goes_segments : segments_after [] base_comes_and_goes
    ≡ segment 0 1 1 0 ∷ segment 1 1 2 1 ∷ segment 0 0 1 1 ∷ []
comes_and_goes_segments = refl

-- nobody holds a base
unheld_owed : IsMade (follows terms None (north ∷ [])) (looked 0 None ∷ looked 1 None ∷ [])
unfolding measure_of
unheld_owed = (refl, (refl, refl))

unheld_segments : segments_after [] (looked 0 None ∷ looked 1 None ∷ []) ≡ []
unheld_segments = refl
