-- The message numbers of the frames that a cutter gave.
use Rattle.std.proofs.Common.{◌≡◌, ℕ, List, [], ◌∷◌, ◌++◌, Option, Some, None, ap, ◌∙◌, sym}
use Rattle.std.specs.Prelude.{filter_map, option_to_list}
use Rattle.std.specs.List.{cons_option}
use Rattle.std.proofs.lemmas.List.Elements.{filter_map-append}
use Rattle.rtcm_frame.specs.Transport.{number_of}
use Rattle.rtcm_frame.specs.Cut.{IsWaiting, cut}
use Rattle.rtcm_frame.specs.Pending.{Pending, Gave}
use Rattle.rtcm_frame.proofs.PendingLemmas.{gave_waiting}

-- of all bytes pushed, frames with these numbers were given
pub record GaveNumbers (all numbers : List ℕ) (pending : Pending) : Type 0 where
  pub given : List (List ℕ)
  pub numbers_are : numbers ≡ filter_map number_of given
  pub gave : Gave given all pending

pub numbers_pushed : (all numbers : List ℕ) (byte : ℕ) (old new : Pending) → GaveNumbers all numbers old
    → ((given : List (List ℕ)) (so_far : List ℕ) → Gave given so_far old → Gave given (so_far ++ byte ∷ []) new)
    → GaveNumbers (all ++ byte ∷ []) numbers new
numbers_pushed all numbers byte old new so_far pushed = record {
  given = so_far.given;
  numbers_are = so_far.numbers_are;
  gave = pushed so_far.given all so_far.gave;
}

number_listed : (read number : Option ℕ) → number ≡ read → cons_option read [] ≡ option_to_list number
number_listed None number e = sym (ap option_to_list e)
number_listed (Some n) number e = sym (ap option_to_list e)

-- the number of one frame
number_alone : (frame : List ℕ) (number : Option ℕ) → number ≡ number_of frame
    → filter_map number_of (frame ∷ []) ≡ option_to_list number
number_alone frame number e = number_listed (number_of frame) number e

pub numbers_more : (all numbers frame : List ℕ) (number : Option ℕ) (old new : Pending) → GaveNumbers all numbers old
    → number ≡ number_of frame
    → ((given : List (List ℕ)) (so_far : List ℕ) → Gave given so_far old → Gave (given ++ frame ∷ []) so_far new)
    → GaveNumbers all (numbers ++ option_to_list number) new
numbers_more all numbers frame number old new so_far is taken =
    let frames = so_far.given in
    record {
      given = frames ++ frame ∷ [];
      numbers_are = ap (λ (l : List ℕ). l ++ option_to_list number) so_far.numbers_are
          ∙ ap (λ (l : List ℕ). filter_map number_of frames ++ l) (sym (number_alone frame number is))
          ∙ sym (filter_map-append number_of frames (frame ∷ []));
      gave = taken frames all so_far.gave;
    }

-- where what is left waits, they are those of all frames
pub numbers_at_end : (all numbers : List ℕ) (pending : Pending) → GaveNumbers all numbers pending
    → IsWaiting pending.bytes → numbers ≡ filter_map number_of (cut all).frames
numbers_at_end all numbers pending so_far waits =
    so_far.numbers_are
    ∙ ap (λ (frames : List (List ℕ)). filter_map number_of frames)
    (gave_waiting so_far.given all pending so_far.gave waits).frames

pub junk_at_end : (all numbers : List ℕ) (pending : Pending) → GaveNumbers all numbers pending
    → IsWaiting pending.bytes → pending.junk ≡ (cut all).junk
junk_at_end all numbers pending so_far waits = (gave_waiting so_far.given all pending so_far.gave waits).junk
