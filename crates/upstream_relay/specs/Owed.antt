-- What the bytes of the other caster's answer owe at the mountpoint that the relay feeds: Claim
-- once the answer is accepted, and where a claim is given, Publish under it for each whole frame
-- that the body so far holds.
use Rattle.std.specs.Prelude.{ℕ, Bool, true, false, List, [], ◌∷◌, drop, Option, None, Some}
use Rattle.mount_ring.specs.declared.RingCall.TheVariants.{Claim, Publish}
use Rattle.mount_ring.specs.declared.RingAnswer.{RingAnswer}
use Rattle.mount_ring.specs.declared.RingAnswer.TheVariants.{Given, Taken, Released, At, Joined, Looked, Read}
use Rattle.session_calls.specs.Steps.{Answer, Step, to_ring, of_ring, of_book, answer_of}
use Rattle.session_calls.specs.Plans.{Plan, done, asks, IsMade, IsBegun}
use Rattle.source_session.specs.Body.{frames_of}
use Rattle.ntrip_client.specs.declared.Answer.{Answer as HeadAnswer}
use Rattle.ntrip_client.specs.declared.Answer.TheVariants as heads

-- these frames under this claim
abbrev pub publishing : ℕ → ℕ → List (List ℕ) → Plan
publishing mount claim [] = done
publishing mount claim (frame ∷ frames) =
    asks (to_ring mount (Publish claim frame)) (λ _. publishing mount claim frames)

-- by what the ring answered to Claim
abbrev pub if_given : ℕ → List (List ℕ) → RingAnswer → Plan
if_given mount frames (Given claim) = publishing mount claim frames
if_given mount frames (Taken caller claim) = done
if_given mount frames Released = done
if_given mount frames (At place) = done
if_given mount frames (Joined cursor) = done
if_given mount frames (Looked claim) = done
if_given mount frames (Read report) = done

abbrev pub after_claim : ℕ → List (List ℕ) → Answer → Plan
after_claim mount frames (of_ring answer) = if_given mount frames answer
after_claim mount frames (of_book answer) = done

-- by what the answer's bytes say so far
abbrev pub owed : ℕ → HeadAnswer → List ℕ → Plan
owed mount heads.Open bytes = done
owed mount (heads.Accepted at chunked) bytes =
    asks (to_ring mount Claim) (after_claim mount (frames_of chunked (drop at bytes)))
owed mount (heads.Refused why) bytes = done

-- the claim that a call was given
abbrev pub given_in : Answer → Option ℕ
given_in (of_ring (Given claim)) = Some claim
given_in (of_ring (Taken caller claim)) = None
given_in (of_ring Released) = None
given_in (of_ring (At place)) = None
given_in (of_ring (Joined cursor)) = None
given_in (of_ring (Looked claim)) = None
given_in (of_ring (Read report)) = None
given_in (of_book answer) = None

-- the claim that the first of these calls was given
abbrev pub first_claim : List Step → Option ℕ
first_claim [] = None
first_claim (step ∷ steps) = given_in (answer_of step)

-- all of this was made, or where a turn was refused a beginning of it
abbrev pub IsDone : (halted : Bool) → Plan → List Step → Type 0
IsDone false plan steps = IsMade plan steps
IsDone true plan steps = IsBegun plan steps
