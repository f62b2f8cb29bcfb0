-- Known filters and frames, as the definitions compute them.
use Rattle.std.proofs.Common.{◌≡◌, ℕ, true, false, List, [], ◌∷◌, replicate, refl, None, Some}
use Rattle.rtcm_frame.specs.Transport.{number_of}
use Rattle.type_filter.specs.declared.selection.FilterFault.TheVariants.{Count, Number}
use Rattle.type_filter.specs.Faults.{first_fault}
use Rattle.type_filter.specs.Numbers.{in_order}
use Rattle.type_filter.specs.Permitted.{All, Listed, permits, count}

-- the shortest frame, and frames whose payloads are the numbers 1005 and 1077 alone
abbrev frame_z : List ℕ
frame_z = 0xD3 ∷ 0x00 ∷ 0x00 ∷ 0x47 ∷ 0xEA ∷ 0x4B ∷ []

abbrev frame_a : List ℕ
frame_a = 0xD3 ∷ 0x00 ∷ 0x02 ∷ 0x3E ∷ 0xD0 ∷ 0xA4 ∷ 0xE0 ∷ 0x00 ∷ []

abbrev frame_b : List ℕ
frame_b = 0xD3 ∷ 0x00 ∷ 0x02 ∷ 0x43 ∷ 0x50 ∷ 0x06 ∷ 0xA2 ∷ 0x7E ∷ []

all_permits_z : permits All frame_z ≡ true
all_permits_z = refl

list_refuses_z : permits (Listed (1005 ∷ [])) frame_z ≡ false
unfolding number_of
list_refuses_z = refl

list_permits_a : permits (Listed (1005 ∷ [])) frame_a ≡ true
unfolding number_of
list_permits_a = refl

list_refuses_b : permits (Listed (1005 ∷ [])) frame_b ≡ false
unfolding number_of
list_refuses_b = refl

one_of_four : count (Listed (1005 ∷ [])) (frame_a ∷ frame_b ∷ frame_b ∷ frame_b ∷ []) ≡ 1
unfolding number_of
one_of_four = refl

put_in_order : in_order (1077 ∷ 1005 ∷ 4095 ∷ 1077 ∷ 0 ∷ 1005 ∷ []) ≡ 0 ∷ 1005 ∷ 1077 ∷ 4095 ∷ []
put_in_order = refl

no_number : first_fault [] ≡ Some (Count 0)
no_number = refl

too_many : first_fault (replicate 65 4096) ≡ Some (Count 65)
too_many = refl

too_high : first_fault (1005 ∷ 4095 ∷ 4096 ∷ 5000 ∷ []) ≡ Some (Number 2)
too_high = refl

well : first_fault (replicate 64 4095) ≡ None
well = refl
