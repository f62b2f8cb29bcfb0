-- Known reads and claims, as the definitions compute them.
use Rattle.std.proofs.Common.{◌≡◌, ℕ, Bool, false, List, [], ◌∷◌, refl, Option, None, Some}
use Rattle.std.specs.Prelude.{◌==◌}
use Rattle.rtcm_frame.specs.Transport.{number_of}
use Rattle.rtcm_frame.proofs.Rows.{frame_a, frame_b, frame_z}
use Rattle.mount_ring.specs.declared.cursor.Cursor.{Cursor}
use Rattle.mount_ring.specs.declared.call.RingCall.{RingCall}
use Rattle.mount_ring.specs.declared.call.RingCall.TheVariants.{Claim, Release, Publish, Join, Look, Read}
use Rattle.mount_ring.specs.declared.call.RingAnswer.TheVariants.{Given, Taken, Released, At, Joined, Looked, Read as Reported}
use Rattle.mount_ring.specs.Reads.{every_frame, read_report, read_frames}
use Rattle.mount_ring.specs.History.{Shape, own_answers}

-- a cursor that stands before the first frame
abbrev pub first : Cursor
first = record { next = 0; passed = 0; filter = 0 }

-- five frames lap the reader of a ring of two: it takes the last two, and three were overwritten
lapped : read_report every_frame 2 (frame_a ∷ frame_b ∷ frame_a ∷ frame_b ∷ frame_z ∷ []) first 16
    ≡ record {
      cursor = record { next = 5; passed = 5; filter = 0 };
      lapped = Some (record { from = 0; to = 3; published = 5; overrun = 3 });
      taken = 2;
    }
lapped = refl

lapped_frames : read_frames every_frame 2 (frame_a ∷ frame_b ∷ frame_a ∷ frame_b ∷ frame_z ∷ []) first 16
    ≡ frame_b ∷ frame_z ∷ []
lapped_frames = refl

-- the smallest ring laps nobody who reads after each frame
smallest : read_report every_frame 1 (frame_a ∷ frame_b ∷ []) (record { next = 1; passed = 1; filter = 0 }) 16
    ≡ record { cursor = record { next = 2; passed = 2; filter = 0 }; lapped = None; taken = 1 }
smallest = refl

smallest_frames : read_frames every_frame 1 (frame_a ∷ frame_b ∷ []) (record { next = 1; passed = 1; filter = 0 }) 16
    ≡ frame_b ∷ []
smallest_frames = refl

-- a ring that is just full laps nobody
full : read_report every_frame 2 (frame_a ∷ frame_b ∷ []) first 16
    ≡ record { cursor = record { next = 2; passed = 2; filter = 0 }; lapped = None; taken = 2 }
full = refl

-- a read ends just after the frame that filled its budget
filled : read_report every_frame 2 (frame_a ∷ frame_b ∷ []) first 1
    ≡ record { cursor = record { next = 1; passed = 1; filter = 0 }; lapped = None; taken = 1 }
filled = refl

is_1005 : Option ℕ → Bool
is_1005 None = false
is_1005 (Some number) = number == 1005

-- the filter that permits messages 1005 alone
only_1005 : List ℕ → Bool
only_1005 frame = is_1005 (number_of frame)

-- of the two frames that were overwritten the filter permits one
overrun_by_filter : read_report only_1005 2 (frame_a ∷ frame_b ∷ frame_b ∷ frame_b ∷ []) first 16
    ≡ record {
      cursor = record { next = 4; passed = 1; filter = 0 };
      lapped = Some (record { from = 0; to = 2; published = 4; overrun = 1 });
      taken = 0;
    }
unfolding only_1005 is_1005 number_of
overrun_by_filter = refl

-- a lap without loss
lap_without_loss : read_report only_1005 2 (frame_b ∷ frame_b ∷ frame_b ∷ frame_b ∷ []) first 16
    ≡ record {
      cursor = record { next = 4; passed = 0; filter = 0 };
      lapped = Some (record { from = 0; to = 2; published = 4; overrun = 0 });
      taken = 0;
    }
unfolding only_1005 is_1005 number_of
lap_without_loss = refl

-- callers 1 and 2 at a ring of four
abbrev pub four : Shape
four = record { capacity = 4; filters = every_frame ∷ [] }

abbrev pub two_callers : List (ℕ × RingCall)
two_callers =
    (1, Claim) ∷ (2, Claim) ∷ (2, Join 0) ∷ (1, Publish 1 frame_a) ∷ (1, Release 1) ∷ (2, Claim)
    ∷ (2, Publish 2 frame_b) ∷ (2, Read first 16) ∷ []

-- a look before the first claim, while the claim is held, by anyone, and behind its release
looks : own_answers four 3 ((3, Look) ∷ (1, Claim) ∷ (3, Look) ∷ (1, Look) ∷ (1, Release 1) ∷ (3, Look) ∷ [])
    ≡ Looked None ∷ Looked (Some 1) ∷ Looked None ∷ []
looks = refl

first_caller : own_answers four 1 two_callers ≡ Given 1 ∷ At 0 ∷ Released ∷ []
first_caller = refl

second_caller : own_answers four 2 two_callers
    ≡ Taken 1 1 ∷ Joined first ∷ Given 2 ∷ At 1
    ∷ Reported (record { cursor = record { next = 2; passed = 2; filter = 0 }; lapped = None; taken = 2 }) ∷ []
second_caller = refl
