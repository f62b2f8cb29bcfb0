-- What a connection is to call, as far as its bytes say, at its turns, and when it is over.
use Rattle.std.specs.Prelude.{ℕ, Bool, true, false, List, [], ◌∷◌, ◌++◌, Option, None, Some}
use Rattle.mount_ring.specs.declared.call.RingCall.TheVariants.{Claim, Release}
use Rattle.mount_ring.specs.declared.call.RingAnswer.TheVariants as rings
use Rattle.caster_accounts.specs.declared.call.BookCall.TheVariants.{Enter, Leave}
use Rattle.caster_accounts.specs.declared.call.BookAnswer.TheVariants as books
use Rattle.rover_cursor.specs.declared.segment.Segment.{Segment}
use Rattle.session_calls.specs.Steps.{Answer, of_ring, of_book, Step, to_ring, to_book, answer_of}
use Rattle.session_calls.specs.Plans.{Plan, done, asks, left}
use Rattle.source_session.specs.Body.{frames_of}
use Rattle.upstream_relay.specs.Owed.{after_claim}
use Rattle.rover_session.specs.Owed.{Terms, rover_plan, reads}
use Rattle.rover_session.specs.Made.{segments_after, owed_among, sent_in, overrun_in}
use Rattle.cast_config.specs.declared.config.Config.{Config}
use Rattle.access_groups.specs.declared.admission.Admission.{Admission}
use Rattle.ntrip_head.specs.declared.request.Version.{Version}
use Rattle.ntrip_reply.specs.declared.kind.Reply.{Reply}
use Rattle.ntrip_reply.specs.declared.kind.Reply.TheVariants as replies
use Rattle.session_model.specs.declared.ending.Ending.{Ending}
use Rattle.session_model.specs.declared.ending.Ending.TheVariants as endings
use Rattle.session_model.specs.declared.ending.Last.{Last}
use Rattle.session_model.specs.Setting.{bases_at}
use Rattle.session_model.specs.Headings.{Heading}
use Rattle.session_model.specs.Judged.{Opening, SourceTerms, RoverTerms, replied, Judged, finished, source, rover, judged}

-- ---- what a connection came to: by what it is judged to be, and by the answer to its first call

pub data Came : Type 0 where
  -- nothing is known of it, or its first call is not answered
  nothing : Came
  -- it is over: it is sent this reply, if one is made, and ends so
  over : Option (Version × Reply) → Ending → Came
  -- a source that holds this claim, with all bytes behind its head
  holding : SourceTerms → List ℕ → ℕ → Came
  -- a rover inside its account
  inside : RoverTerms → Came

abbrev pub source_came : SourceTerms → List ℕ → Answer → Came
source_came terms body (of_ring (rings.Given claim)) = holding terms body claim
source_came terms body (of_ring (rings.Taken caller claim)) =
    over (replied terms.version replies.Taken) (endings.Taken caller claim)
source_came terms body _ = nothing

abbrev pub rover_came : RoverTerms → Answer → Came
rover_came terms (of_book books.Entered) = inside terms
rover_came terms (of_book (books.Full busy cap)) =
    over (replied terms.version replies.Full) (endings.Full busy cap)
rover_came terms _ = nothing

abbrev pub came_by : Judged → Option Answer → Came
came_by (finished reply end) first = over reply end
came_by (source terms body) (Some answer) = source_came terms body answer
came_by (rover terms tail) (Some answer) = rover_came terms answer
came_by _ _ = nothing

-- the answer to the first of its calls
abbrev pub first_answer : List Step → Option Answer
first_answer [] = None
first_answer (step ∷ steps) = Some (answer_of step)

abbrev pub came_to : Judged → List Step → Came
came_to judged steps = came_by judged (first_answer steps)

-- ---- for the bytes

-- a source claims, and where it is given the claim it publishes each frame of its payload under it
abbrev pub source_plan : SourceTerms → List ℕ → Plan
source_plan terms body =
    asks (to_ring terms.mount Claim) (after_claim terms.mount (frames_of terms.chunked body))

-- whether this answer lets a rover into its account
abbrev pub is_let_in : Answer → Bool
is_let_in (of_book books.Entered) = true
is_let_in _ = false

-- one that entered goes on so
abbrev pub if_entered : (entered : Bool) → Plan → Plan
if_entered true plan = plan
if_entered false plan = done

-- what it may hear, as its session is told
abbrev pub terms_of : Config → Admission → Terms
terms_of c admission = record {
  near = admission.near;
  filter = admission.group;
  hysteresis = c.hysteresis;
  bases = bases_at c admission.bases;
}

-- it enters its account, and then joins as its reports say
abbrev pub entering_plan : Config → RoverTerms → List ℕ → Plan
entering_plan c terms tail =
    asks (to_book (Enter terms.admission.account))
    (λ answer. if_entered (is_let_in answer)
    (rover_plan (terms_of c terms.admission) terms.first tail))

-- all that the bytes so far owe
abbrev pub plan_of : Config → Judged → Plan
plan_of c (source terms body) = source_plan terms body
plan_of c (rover terms tail) = entering_plan c terms tail
plan_of c _ = done

-- ---- when it is over

-- a claim is given back, and an account is left with what its segments count
abbrev pub closing_by : Came → List Segment → Plan
closing_by (holding terms body claim) segments =
    asks (to_ring terms.mount (Release claim)) (λ answer. done)
closing_by (inside terms) segments =
    asks (to_book (Leave terms.admission.account (sent_in segments) (overrun_in segments)))
    (λ answer. done)
closing_by _ segments = done

abbrev pub closing : Judged → List Step → Plan
closing judged steps = closing_by (came_to judged steps) (segments_after [] steps)

-- ---- what happens to a connection, and what it owes for that

pub data Happening : Type 0 where
  arrives : List ℕ → Happening
  takes_turn : ℕ → Happening
  ends : Last → Happening

-- of a connection with this head and these bytes and steps so far
abbrev pub owed : Config → Opening → Heading → List ℕ → List Step → Happening → Plan
owed c opening heading text steps (arrives more) =
    left (plan_of c (judged c opening heading (text ++ more))) (owed_among steps)
owed c opening heading text steps (takes_turn budget) = reads budget (segments_after [] steps)
owed c opening heading text steps (ends last) = closing (judged c opening heading text) steps
