-- One event more.
use Rattle.std.proofs.Common.{◌≡◌, ◌∙◌, ◌⊎◌, ℕ, Bool, true, false, List, [], ◌∷◌, ◌++◌, refl, sym, ap, subst, fold}
use Rattle.std.proofs.lemmas.List.{append-nil, map-append}
use Rattle.std.proofs.lemmas.Grind.{fold-append}
use Rattle.session_calls.specs.Steps.{Step}
use Rattle.session_model.specs.Judged.{Opening}
use Rattle.session_model.specs.Owed.{Happening}
use Rattle.cast_config.specs.declared.config.Config.{Config}
use Rattle.session_model.specs.Courses.{Event, happened, steps_on, steps_of, with_bytes, text_of, IsGoingOn, IsOwed, IsFirstOwed, IsCourse, Ran}

-- what a connection made for an event, halted by it or not
abbrev pub OwedBy : Bool → Config → Opening → List ℕ → List Step → Event → Type 0
OwedBy false c opening text steps event = IsOwed c opening text steps event
OwedBy true c opening text steps event = IsFirstOwed c opening text steps event ⊎ (event.made ≡ [])

-- ---- what all of it comes to

pub happened-snoc : (events : List Event) (event : Event)
    → happened (events ++ event ∷ []) ≡ happened events ++ event.what ∷ []
happened-snoc events event = map-append (λ (e : Event). e.what) events (event ∷ [])

pub steps-snoc : (events : List Event) (event : Event)
    → steps_of (events ++ event ∷ []) ≡ steps_of events ++ event.made
steps-snoc events event =
    fold-append (λ (made : List Step) (e : Event). made ++ e.made) [] events (event ∷ [])

pub text-snoc : (whats : List Happening) (what : Happening)
    → text_of (whats ++ what ∷ []) ≡ with_bytes (text_of whats) what
text-snoc whats what = fold-append with_bytes [] whats (what ∷ [])

pub text-more : (whats : List Happening) (what next : Happening)
    → text_of (whats ++ what ∷ next ∷ []) ≡ with_bytes (with_bytes (text_of whats) what) next
text-more whats what next = fold-append with_bytes [] whats (what ∷ next ∷ [])

-- ---- the course

-- all bytes of these events, behind those before
abbrev text_on : List ℕ → List Event → List ℕ
text_on text events = fold with_bytes text (happened events)

course-snoc : (c : Config) (opening : Opening) (text : List ℕ) (steps : List Step) (events : List Event)
    (event : Event) → IsCourse c opening text steps events
    → IsGoingOn c opening (text_on text events) (steps_on steps events)
    → IsOwed c opening (text_on text events) (steps_on steps events) event
    → IsCourse c opening text steps (events ++ event ∷ [])
course-snoc c opening text steps [] event course going owed = (going, owed, tt)
course-snoc c opening text steps (first ∷ events) event course going owed = (
  course.0,
  course.1,
  course-snoc c opening (with_bytes text first.what) (steps ++ first.made) events event course.2 going owed,
)

-- a connection that was not halted ran a whole course
pub whole_course : (c : Config) (opening : Opening) (events : List Event) → Ran c opening false events
    → IsCourse c opening [] [] events
whole_course c opening events ran =
    subst (IsCourse c opening [] [])
    (sym (ran.split ∙ ap (λ (last : List Event). ran.whole ++ last) ran.broken ∙ append-nil ran.whole)) ran.course

pub ran_more : (c : Config) (opening : Opening) (halted : Bool) (events : List Event) (event : Event)
    → Ran c opening false events → IsGoingOn c opening (text_of (happened events)) (steps_of events)
    → OwedBy halted c opening (text_of (happened events)) (steps_of events) event
    → Ran c opening halted (events ++ event ∷ [])
ran_more c opening false events event ran going owed = record {
  whole = events ++ event ∷ [];
  last = [];
  split = sym (append-nil (events ++ event ∷ []));
  course = course-snoc c opening [] [] events event (whole_course c opening events ran) going owed;
  broken = refl;
}
ran_more c opening true events event ran going owed = record {
  whole = events;
  last = event ∷ [];
  split = refl;
  course = whole_course c opening events ran;
  broken = (going, owed);
}
