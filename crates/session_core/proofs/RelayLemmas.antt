-- A relay at one of several places: all that it calls is at the ring of its mountpoint.
use Rattle.std.proofs.Common.{◌≡◌, ◌<◌, ◌++◌, ℕ, Bool, true, false, List, [], ◌∷◌, length, map, get_or, set, refl, sym, subst}
use Rattle.std.specs.Bool.{⊤}
use Rattle.std.specs.List.{list_all}
use Rattle.turn_log.specs.History.{History}
use Rattle.mount_ring.specs.declared.call.RingCall.{RingCall}
use Rattle.mount_ring.specs.declared.call.RingAnswer.TheVariants as answers
use Rattle.mount_ring.specs.declared.shape.RingShape.{RingShape}
use Rattle.session_calls.specs.Steps.{Step, at_ring, at_book, to_ring, ask_of, answer_of, Answer, of_ring, of_book}
use Rattle.session_calls.specs.Plans.{done}
use Rattle.session_calls.proofs.PlaceLemmas.{ring_answer}
use Rattle.ntrip_client.specs.declared.answer.Answer.{Answer as HeadAnswer}
use Rattle.ntrip_client.specs.declared.answer.Answer.TheVariants as heads
use Rattle.upstream_relay.specs.declared.session.RelaySession.{RelaySession}
use Rattle.upstream_relay.specs.Owed.{publishing, after_claim, owed, IsDone}
use Rattle.upstream_relay.specs.Called.{Adds}
use Rattle.upstream_relay.specs.Standing.{StandsFor}
use Rattle.session_core.proofs.Published.{RelayFed}
use Rattle.session_core.proofs.PlacedLemmas.{IsAt, went_calls, at_none, at_more}

-- ---- steps at one mountpoint

abbrev IsStepAt : ℕ → Step → Type 0
IsStepAt mount (at_ring asked call answer) = asked ≡ mount
IsStepAt mount (at_book call answer) = ⊥

abbrev AreAt : ℕ → List Step → Type 0
AreAt mount [] = ⊤
AreAt mount (step ∷ steps) = IsStepAt mount step × AreAt mount steps

asked_at : (mount : ℕ) (call : RingCall) (step : Step) → ask_of step ≡ to_ring mount call → IsStepAt mount step
asked_at mount call (at_ring asked own answer) is = cc
asked_at mount call (at_book own answer) is = absurd cc

are_behind : (mount : ℕ) (first second : List Step) → AreAt mount (first ++ second) → AreAt mount second
are_behind mount [] second all = all
are_behind mount (step ∷ first) second all = are_behind mount first second all.1

is_at : (mount : ℕ) (steps : List Step) → AreAt mount steps → IsAt mount steps
is_at mount [] all = at_none mount
is_at mount (at_ring asked call answer ∷ steps) all = at_more mount asked call answer steps all.0
    (is_at mount steps all.1)
is_at mount (at_book call answer ∷ steps) all = absurd all.0

-- ---- what a relay owes

pub done_is_none : (refused : Bool) (steps : List Step) → IsDone refused done steps → steps ≡ []
done_is_none false steps made = made
done_is_none true [] begun = refl
done_is_none true (step ∷ steps) begun = absurd begun

none_at : (mount : ℕ) (refused : Bool) (steps : List Step) → IsDone refused done steps → AreAt mount steps
none_at mount refused steps made = subst (AreAt mount) (sym (done_is_none refused steps made)) tt

publishing_at : (refused : Bool) (mount claim : ℕ) (frames : List (List ℕ)) (steps : List Step)
    → IsDone refused (publishing mount claim frames) steps → AreAt mount steps
publishing_at refused mount claim [] steps made = none_at mount refused steps made
publishing_at false mount claim (frame ∷ frames) [] made = absurd made
publishing_at true mount claim (frame ∷ frames) [] begun = tt
publishing_at false mount claim (frame ∷ frames) (step ∷ steps) made =
    (asked_at mount _ step made.0, publishing_at false mount claim frames steps made.1)
publishing_at true mount claim (frame ∷ frames) (step ∷ steps) begun =
    (asked_at mount _ step begun.0, publishing_at true mount claim frames steps begun.1)

claimed_at : (refused : Bool) (mount : ℕ) (frames : List (List ℕ)) (answer : Answer) (steps : List Step)
    → IsDone refused (after_claim mount frames answer) steps → AreAt mount steps
claimed_at refused mount frames (of_ring (answers.Given claim)) steps made = publishing_at refused mount claim frames
    steps made
claimed_at refused mount frames (of_ring (answers.Taken caller claim)) steps made = none_at mount refused steps made
claimed_at refused mount frames (of_ring answers.Released) steps made = none_at mount refused steps made
claimed_at refused mount frames (of_ring (answers.At place)) steps made = none_at mount refused steps made
claimed_at refused mount frames (of_ring (answers.Joined cursor)) steps made = none_at mount refused steps made
claimed_at refused mount frames (of_ring (answers.Looked live)) steps made = none_at mount refused steps made
claimed_at refused mount frames (of_ring (answers.Read report)) steps made = none_at mount refused steps made
claimed_at refused mount frames (of_book answer) steps made = none_at mount refused steps made

owed_at : (refused : Bool) (mount : ℕ) (answer : HeadAnswer) (bytes : List ℕ) (steps : List Step)
    → IsDone refused (owed mount answer bytes) steps → AreAt mount steps
owed_at refused mount heads.Open bytes steps made = none_at mount refused steps made
owed_at refused mount (heads.Refused why) bytes steps made = none_at mount refused steps made
owed_at false mount (heads.Accepted at chunked) bytes [] made = absurd made
owed_at true mount (heads.Accepted at chunked) bytes [] begun = tt
owed_at false mount (heads.Accepted at chunked) bytes (step ∷ steps) made =
    (asked_at mount _ step made.0, claimed_at false mount _ (answer_of step) steps made.1)
owed_at true mount (heads.Accepted at chunked) bytes (step ∷ steps) begun =
    (asked_at mount _ step begun.0, claimed_at true mount _ (answer_of step) steps begun.1)

-- ---- at its place

pub relay_fed : {P : Type 0} (shape : P → RingShape) (alone : P → Bool) (seen : P → History RingCall) (places : List P)
    (mount : ℕ) (d new : P) (me : ℕ) (session : RelaySession) (bytes : List ℕ) (steps : List Step)
    → mount < length places
    → Adds (alone (get_or places mount d)) (ring_answer (shape (get_or places mount d)))
    (seen (get_or places mount d)) (seen new) me mount (λ more. StandsFor mount session bytes (steps ++ more))
    → RelayFed (map shape places) (list_all alone places) (map seen places) (map seen
    (set places mount new)) me mount session bytes steps
relay_fed shape alone seen places mount d new me session bytes steps within (more, heard, stands) = record {
  more = more;
  went = went_calls shape alone seen places mount d new me more within
      (is_at mount more (are_behind mount steps more (owed_at _ mount stands.answer bytes
      (steps ++ more) stands.made))) heard;
  stands = stands;
}
