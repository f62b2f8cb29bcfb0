-- What a session stands for: how its connection opened, the bytes that came in, the calls that were
-- made, the histories that the last of them left, and the bytes that were sent.
use Rattle.std.specs.Prelude.{◌≡◌, ◌≢◌, ℕ, ◌+◌, ◌^◌, ◌<◌, ◌⊎◌, ⊤, Bool, true, false, ◌&&◌, IsTrue, List, [], ◌∷◌, ◌++◌, length, reverse, Option, None, Some, unwrap_or, slice_get, is_none}
use Rattle.caster_accounts.specs.declared.call.BookCall.TheVariants.{Enter}
use Rattle.caster_accounts.specs.declared.call.BookAnswer.TheVariants.{Entered}
use Rattle.caster_accounts.specs.History.{may_leave}
use Rattle.mount_ring.specs.declared.call.RingAnswer.TheVariants.{Given}
use Rattle.session_calls.specs.Steps.{of_ring, Step, at_book}
use Rattle.session_calls.specs.Plans.{Plan}
use Rattle.session_calls.specs.Rings.{history_at}
use Rattle.source_session.specs.declared.session.SourceSession.{SourceSession}
use Rattle.source_session.specs.Calls.{IsHolding}
use Rattle.source_session.specs.Standing as source_standing
use Rattle.upstream_relay.specs.declared.session.RelaySession.{RelaySession}
use Rattle.upstream_relay.specs.Called.{IsHoldingBy}
use Rattle.upstream_relay.specs.Owed.{IsDone}
use Rattle.upstream_relay.specs.Standing as relay_standing
use Rattle.rover_session.specs.declared.session.RoverSession.{RoverSession}
use Rattle.rover_session.specs.Made.{segments_after, owed_among}
use Rattle.rover_session.specs.Standing.{IsResumable}
use Rattle.rover_session.specs.Standing as rover_standing
use Rattle.ntrip_head.specs.declared.request.Version.TheVariants.{One}
use Rattle.ntrip_head.specs.Head.{IsOpen}
use Rattle.cast_config.specs.declared.config.Config.{Config}
use Rattle.session_model.specs.declared.ending.Ending.{Ending}
use Rattle.session_model.specs.declared.ending.Ending.TheVariants.{Memory}
use Rattle.session_core.specs.declared.session_stage.SessionStage.{SessionStage}
use Rattle.session_core.specs.declared.session_stage.SessionStage.TheVariants.{Head, Over, Source, Relay, Rover}
use Rattle.session_core.specs.declared.session.Session.{Session}
use Rattle.session_model.specs.Setting.{shapes, caps}
use Rattle.session_model.specs.Headings.{Heading}
use Rattle.session_model.specs.Judged.{Opening, sends_head, relays, SourceTerms, RoverTerms, Judged, waiting, source, rover, judged, mount_fed}
use Rattle.session_model.specs.Owed.{Came, nothing, over, holding, inside, first_answer, came_to, terms_of, plan_of}
use Rattle.session_model.specs.Endings.{ended_by}
use Rattle.session_model.specs.Replies.{opening_text, sent_by}
use Rattle.session_model.specs.Reports.{IsHeadingOf}
use Rattle.session_model.specs.Run.{Histories}
use Rattle.session_model.specs.Called.{Called, OthersCalled, is_halt}

-- ---- halts

-- whether a session was halted by a place or want of memory
abbrev pub is_halted : Option Ending → Bool
is_halted None = false
is_halted (Some end) = is_halt end

-- whether no call was made
abbrev pub is_uncalled : List Step → Bool
is_uncalled [] = true
is_uncalled (step ∷ steps) = false

-- whether a session was halted before its first call
abbrev pub is_halted_uncalled : Option Ending → List Step → Bool
is_halted_uncalled ended steps = is_halted ended && is_uncalled steps

-- all of a plan was made, and by a session that was halted the first of it
abbrev pub IsMadeBy : (halted : Bool) → Plan → List Step → Type 0
IsMadeBy halted plan steps = IsDone halted plan steps

-- all of these bytes, or the first of them where it was cut
abbrev pub IsSentBy : (cut : Bool) → List ℕ → List ℕ → Type 0
IsSentBy false sent due = sent ≡ due
IsSentBy true sent due = (rest : List ℕ) × (due ≡ sent ++ rest)

-- a session that was not halted ended where its connection did by itself
abbrev pub EndsAs : Option Ending → Option Ending → Type 0
EndsAs ended by = IsTrue (is_halted ended) ⊎ (ended ≡ by)

-- ---- stages

-- it holds no claim and is inside no account
abbrev pub IsFree : Came → Type 0
IsFree nothing = ⊤
IsFree (over reply end) = ⊤
IsFree (holding terms body claim) = ⊥
IsFree (inside terms) = ⊥

-- nothing is to be closed, and there is nothing to tell
pub record IsOver (judged : Judged) (steps : List Step) : Type 0 where
  pub known : judged ≢ waiting
  pub free : IsFree (came_to judged steps)
  pub segments : segments_after [] steps ≡ []
  pub no_read : owed_among steps ≡ steps

-- a source that was given its claim
pub record IsSource (c : Config) (me : ℕ) (histories : Histories) (judged : Judged)
    (steps : List Step) (mount : ℕ) (session : SourceSession) : Type 0 where
  pub terms : SourceTerms
  pub body : List ℕ
  pub judged_is : judged ≡ source terms body
  pub mount_is : terms.mount ≡ mount
  pub within : mount < length c.mount
  pub caller : session.me ≡ me
  pub stands : source_standing.StandsFor session body
  pub chunked : source_standing.is_chunked session ≡ terms.chunked
  pub claim : first_answer steps ≡ Some (of_ring (Given session.claim))
  pub holds : IsHolding me session.claim (history_at histories.rings mount)
  pub no_read : owed_among steps ≡ steps
  pub segments : segments_after [] steps ≡ []

-- a relay, whatever the other caster answered so far
pub record IsRelay (c : Config) (me : ℕ) (histories : Histories) (opening : Opening)
    (text : List ℕ) (steps : List Step) (mount : ℕ) (session : RelaySession) : Type 0 where
  pub number : ℕ
  pub opens : opening ≡ relays number
  pub mount_is : mount_fed (slice_get c.relay number) ≡ mount
  pub within : mount < length c.mount
  pub caller : session.me ≡ me
  pub stands : relay_standing.StandsFor mount session text steps
  pub segments : segments_after [] steps ≡ []
  pub holds : IsHoldingBy me (relay_standing.claim_at session.stage)
      (history_at histories.rings mount)

-- a relay of this mountpoint before the first byte of the answer
abbrev pub IsNewRelay : ℕ → ℕ → SessionStage → Type 0
IsNewRelay me mount (Relay at session) =
    (at ≡ mount) × (session.me ≡ me) × (relay_standing.claim_at session.stage ≡ None)
    × (relay_standing.halt_at session.stage ≡ None)
    × relay_standing.StandsFor mount session [] []
IsNewRelay me mount _ = ⊥

-- a rover that entered its account
pub record IsRover (c : Config) (me : ℕ) (histories : Histories) (judged : Judged)
    (steps : List Step) (account : ℕ) (session : RoverSession) : Type 0 where
  pub terms : RoverTerms
  pub tail : List ℕ
  pub behind : List Step
  pub judged_is : judged ≡ rover terms tail
  pub account_is : terms.admission.account ≡ account
  pub steps_are : steps ≡ at_book (Enter account) Entered ∷ behind
  pub caller : session.me ≡ me
  pub admitted : session.terms ≡ terms_of c terms.admission
  pub version : session.version ≡ unwrap_or terms.version One
  pub stands : rover_standing.Stands session terms.first tail behind
  pub resumes : IsResumable (shapes c) me histories.rings session.segments
  pub inside : IsTrue (may_leave (caps c) histories.book me account)

abbrev pub IsAtStage : Config → ℕ → Histories → Opening → Judged → List ℕ → List Step → SessionStage
    → Type 0
IsAtStage c me h opening j text steps (Head head) =
    (opening ≡ sends_head) × (head ≡ text) × (steps ≡ []) × IsOpen head
IsAtStage c me h opening j text steps Over = IsOver j steps
IsAtStage c me h opening j text steps (Source mount session) = IsSource c me h j steps mount session
IsAtStage c me h opening j text steps (Relay mount session) =
    IsRelay c me h opening text steps mount session
IsAtStage c me h opening j text steps (Rover account session) =
    IsRover c me h j steps account session

-- ---- halts of stages

-- what comes is taken
abbrev pub is_going : SessionStage → Bool
is_going (Head head) = true
is_going Over = false
is_going (Source mount session) = is_none session.halt
is_going (Relay mount session) = is_none (relay_standing.halt_at session.stage)
is_going (Rover account session) = is_none session.halt

-- a turn of a source or of a relay was refused
abbrev pub is_refused_at : SessionStage → Bool
is_refused_at (Source mount session) = source_standing.is_cut_short session.halt
is_refused_at (Relay mount session) = relay_standing.is_short_at session.stage
is_refused_at _ = false

-- a session that has not ended is halted nowhere, and one whose turn was refused has ended by that
pub record EndsAt (stage : SessionStage) (ended : Option Ending) : Type 0 where
  pub goes : ended ≡ None → IsTrue (is_going stage)
  pub refused : IsTrue (is_refused_at stage) → IsTrue (is_halted ended)

-- ---- the whole

pub record Stands (c : Config) (session : Session) (opening : Opening) (text : List ℕ)
    (steps : List Step) (histories : Histories) (sent : List ℕ) : Type 0 where
  pub heading : Heading
  pub is_heading : IsHeadingOf (Some opening) text heading
  pub owes : IsMadeBy (is_halted session.ended) (plan_of c (judged c opening heading text))
      (owed_among steps)
  pub ends : EndsAs session.ended (ended_by (came_to (judged c opening heading text) steps))
  pub stage : IsAtStage c session.me histories opening (judged c opening heading text) text steps
      session.stage
  pub halts : EndsAt session.stage session.ended
  pub sent_is : IsSentBy (is_halted_uncalled session.ended steps) sent
      (sent_by c histories.rings opening (came_to (judged c opening heading text) steps)
      (reverse (segments_after [] steps)))

-- memory was lacking before anything was called or replied
pub record IsLost (c : Config) (session : Session) (opening : Opening) (steps : List Step)
    (sent : List ℕ) : Type 0 where
  pub ended : session.ended ≡ Some Memory
  pub stage : session.stage ≡ Over
  pub uncalled : steps ≡ []
  pub unsent : sent ≡ opening_text c opening

abbrev pub StandsFor : Config → Session → Opening → List ℕ → List Step → Histories → List ℕ
    → Type 0
StandsFor c session opening text steps histories sent =
    Stands c session opening text steps histories sent ⊎ IsLost c session opening steps sent

-- ---- what calls make of it

-- the session stands for something, others alone called since, and so many more bytes may come
abbrev pub Follows : Config → Session → Histories → ℕ → Type 0
Follows c session now more =
    (opening : Opening) × (text : List ℕ) × (steps : List Step) × (histories : Histories)
    × (sent : List ℕ) × StandsFor c session opening text steps histories sent
    × OthersCalled histories now session.me × (length text + more < 2 ^ 63)

-- A call made further steps, none of which is a read, and sent further bytes, and the session
-- stands with them for this text.
pub record Fed (c : Config) (alone : Bool) (old now : Histories) (session : Session)
    (opening : Opening) (text : List ℕ) (steps : List Step) (sent before after : List ℕ)
    : Type 0 where
  pub more : List Step
  pub added : List ℕ
  pub out : after ≡ before ++ added
  pub called : Called c alone old now session.me more
  pub no_read : owed_among more ≡ more
  pub stands : StandsFor c session opening text (steps ++ more) now (sent ++ added)
