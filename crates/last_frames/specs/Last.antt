-- The frames that a rover needs before it can use the others, and that a base sends seldom: of each
-- of these messages the last frame.
use Rattle.std.specs.Prelude.{ℕ, ◌==◌, Bool, false, List, [], ◌∷◌, reverse, Option, None, Some}
use Rattle.std.specs.List.{filter, find, flat_map}
use Rattle.std.specs.Option.{option_to_list}
use Rattle.rtcm_frame.specs.Transport.{number_of}

-- Their message numbers (RTCM 10403.3), in the order in which a rover is sent them: the station's
-- coordinates (1005, and 1006 with the antenna's height), its antenna (1007, and 1008 with the
-- serial number), its receiver and antenna (1033), and its code-phase biases of GLONASS (1230).
abbrev pub station_numbers : List ℕ
station_numbers = 1005 ∷ 1006 ∷ 1007 ∷ 1008 ∷ 1033 ∷ 1230 ∷ []

-- this is the number that was found
abbrev pub is_found : ℕ → Option ℕ → Bool
is_found number None = false
is_found number (Some found) = found == number

-- the frame has this message number
abbrev pub has_number : ℕ → List ℕ → Bool
has_number number frame = is_found number (number_of frame)

-- the last of these frames that has this message number: the first that is met from their end
abbrev pub last_of : ℕ → List (List ℕ) → Option (List ℕ)
last_of number frames = find (has_number number) (reverse frames)

-- this frame, if there is one and it is permitted
abbrev pub if_permitted : (List ℕ → Bool) → Option (List ℕ) → List (List ℕ)
if_permitted permits frame = filter permits (option_to_list frame)

-- of each of these messages, in their order, the last one of the frames, if there is one and it is
-- permitted
abbrev pub last_permitted : (List ℕ → Bool) → List (List ℕ) → List (List ℕ)
last_permitted permits frames =
    flat_map (λ number. if_permitted permits (last_of number frames)) station_numbers
