-- A relay, and a source under its claim, with more bytes.
use Rattle.std.proofs.Common.{◌≡◌, ◌∙◌, ◌<◌, ℕ, Bool, true, false, IsTrue, List, [], ◌∷◌, ◌++◌, length, drop, refl, sym, ap, subst, inl, inr, Option, None, Some, Ok, Err}
use Rattle.std.specs.Prelude.{is_some, is_none, nat_le, slice_get, reverse}
use Rattle.std.specs.Option.{option_map}
use Rattle.std.proofs.lemmas.Bool.{le-leb}
use Rattle.std.proofs.lemmas.List.{append-nil}
use Rattle.rtcm_frame.specs.Pending.{Pending}
use Rattle.chunk_body.specs.declared.phase.Phase.{Phase}
use Rattle.chunk_body.specs.declared.phase.Phase.TheVariants.{Digits, Extension, SizeLf, Data, DataCr, DataLf, TrailerStart, Trailer, TrailerLf, LastLf, Ended, Broken}
use Rattle.chunk_body.specs.Machine.{Reading, read, is_ended, is_broken}
use Rattle.chunk_body.specs.Text.{HasEnded, IsOpen, IsBadAt}
use Rattle.chunk_body.proofs.ReadingLemmas.{known, ended_reading, bad_reading}
use Rattle.chunk_body.proofs.TextLemmas.{bad_dead}
use Rattle.turn_log.specs.History.{History}
use Rattle.turn_log.specs.Heard.{Heard}
use Rattle.turn_log.proofs.HeardLaws.{heard_none}
use Rattle.mount_ring.specs.declared.call.RingCall.{RingCall}
use Rattle.mount_ring.specs.declared.call.RingCall.TheVariants as calls
use Rattle.mount_ring.specs.declared.call.RingAnswer.TheVariants as rings
use Rattle.caster_accounts.specs.declared.call.BookCall.{BookCall}
use Rattle.caster_accounts.specs.declared.call.BookAnswer.{BookAnswer}
use Rattle.rover_cursor.specs.declared.segment.Segment.{Segment}
use Rattle.session_calls.specs.Steps.{Ask, to_ring, Answer, of_ring, of_book, Step, at_ring, ask_of, answer_of, on_book}
use Rattle.session_calls.specs.Plans.{Plan, done}
use Rattle.session_calls.specs.Rings.{Went, history_at}
use Rattle.source_session.specs.declared.fault.SourceHalt.{SourceHalt}
use Rattle.source_session.specs.declared.fault.SourceHalt.TheVariants as sources
use Rattle.source_session.specs.declared.session.SourceSession.{SourceSession}
use Rattle.source_session.specs.Standing as source_standing
use Rattle.ntrip_client.specs.declared.answer.Answer.{Answer as HeadAnswer}
use Rattle.ntrip_client.specs.declared.answer.Answer.TheVariants as heads
use Rattle.ntrip_client.specs.declared.answer.Refusal.{Refusal}
use Rattle.ntrip_client.specs.declared.answer.Refusal.TheVariants as refusals
use Rattle.ntrip_client.specs.Answer.{Said, HasHead, IsAnswer}
use Rattle.upstream_relay.specs.declared.body.RelayStage.{RelayStage}
use Rattle.upstream_relay.specs.declared.body.RelayStage.TheVariants as stages
use Rattle.upstream_relay.specs.declared.fault.RelayHalt.{RelayHalt}
use Rattle.upstream_relay.specs.declared.fault.RelayHalt.TheVariants as halts
use Rattle.upstream_relay.specs.declared.session.RelaySession.{RelaySession}
use Rattle.upstream_relay.specs.Called.{IsHoldingBy}
use Rattle.upstream_relay.specs.Halts.{halt_of_source, is_refused_turn}
use Rattle.upstream_relay.specs.Owed.{publishing, after_claim, owed, IsDone}
use Rattle.upstream_relay.specs.Standing.{IsAccepted, IsHaltedBy, HasBody, claim_at, halt_at, is_short_at}
use Rattle.upstream_relay.specs.Standing as relay_standing
use Rattle.rover_session.specs.Made.{segments_after, owed_among}
use Rattle.rover_session.proofs.MadeLemmas.{segments-append}
use Rattle.cast_config.specs.declared.config.Config.{Config}
use Rattle.session_model.specs.declared.ending.Ending.{Ending}
use Rattle.session_model.specs.declared.ending.Ending.TheVariants as endings
use Rattle.session_core.specs.declared.session.Session.{Session}
use Rattle.session_core.specs.declared.session_stage.SessionStage.{SessionStage}
use Rattle.session_core.specs.declared.session_stage.SessionStage.TheVariants.{Relay}
use Rattle.session_model.specs.Setting.{shapes}
use Rattle.session_model.specs.Headings.{Heading, incomplete, too_long, whole, answered, IsAnswering}
use Rattle.session_model.specs.Judged.{Opening, relays, Judged, waiting, finished, source, once, ending_by_answer, said_judged, relay_judged, mount_fed, judged}
use Rattle.session_model.specs.Owed.{came_by, first_answer, came_to, plan_of}
use Rattle.session_model.specs.Endings.{body_ending, claimed_ending, ended_by}
use Rattle.session_model.specs.Replies.{opening_text, reply_of, sent_by}
use Rattle.session_model.specs.Reports.{IsHeadingOf}
use Rattle.session_model.specs.Run.{Histories}
use Rattle.session_model.specs.Called.{book_answer, is_halt}
use Rattle.session_core.proofs.Published.{RelayFed}
use Rattle.session_core.specs.Feeding.{FedOn, end_of_source, end_of_relay}
use Rattle.session_core.specs.Standing.{EndsAs, EndsAt, IsMadeBy, IsSentBy, IsAtStage, IsRelay, Stands, is_halted, is_halted_uncalled}
use Rattle.session_core.proofs.BeginLemmas.{sent_all}
use Rattle.session_core.proofs.RelayLemmas.{done_is_none}
use Rattle.session_core.proofs.ClosingLemmas.{claimed_received}
use Rattle.session_model.proofs.QuietLemmas.{AreSource, is_source_ask, source_owed, source_off, quiet_on}

-- ---- how a body ends by itself

-- in a phase at neither end
at_neither : (claim behind : ℕ) (p : Phase) → (p ≡ Ended → ⊥) → (p ≡ Broken → ⊥)
    → body_ending claim (is_ended p) (is_broken p) behind ≡ None
at_neither claim behind (Digits count value) not_ended not_broken = refl
at_neither claim behind (Extension count value) not_ended not_broken = refl
at_neither claim behind (SizeLf value) not_ended not_broken = refl
at_neither claim behind (Data count) not_ended not_broken = refl
at_neither claim behind DataCr not_ended not_broken = refl
at_neither claim behind DataLf not_ended not_broken = refl
at_neither claim behind (TrailerStart count) not_ended not_broken = refl
at_neither claim behind (Trailer count) not_ended not_broken = refl
at_neither claim behind (TrailerLf count) not_ended not_broken = refl
at_neither claim behind LastLf not_ended not_broken = refl
at_neither claim behind Ended not_ended not_broken = absurd (not_ended refl)
at_neither claim behind Broken not_ended not_broken = absurd (not_broken refl)

open_ending : (claim : ℕ) (body : List ℕ) → IsOpen body → claimed_ending true claim body ≡ None
open_ending claim body open_ =
    at_neither claim (read body).taken (read body).phase
    (λ e. open_.going ((ended_reading body (read body) (known body)).0 e))
    (λ e. bad_dead body (read body).taken
    ((bad_reading body (read body) (read body).taken (known body)).0 (e, refl)) open_.live)

ended_ending : (claim : ℕ) (body : List ℕ) → HasEnded body
    → claimed_ending true claim body ≡ Some (endings.SourceEnd claim)
ended_ending claim body ended =
    ap (λ (p : Phase). body_ending claim (is_ended p) (is_broken p) (read body).taken)
    ((ended_reading body (read body) (known body)).1 ended)

bad_ending : (claim : ℕ) (body : List ℕ) (place : ℕ) → IsBadAt body place
    → claimed_ending true claim body ≡ Some (endings.BadChunk place)
bad_ending claim body place bad =
    let is = (bad_reading body (read body) place (known body)).1 bad in
    ap (λ (p : Phase). body_ending claim (is_ended p) (is_broken p) (read body).taken) is.0
    ∙ ap (λ (n : ℕ). Some (endings.BadChunk n)) is.1

ends_by : (claim : ℕ) (halt : Option SourceHalt) (chunks : Option Reading) (cutter : Pending) (body : List ℕ)
    → source_standing.StandsBy halt chunks cutter body
    → EndsAs (option_map (end_of_source claim) halt) (claimed_ending (is_some chunks) claim body)
ends_by claim None None cutter body stands = inr refl
ends_by claim None (Some reading) cutter body stands = inr (sym (open_ending claim body stands.0.1))
ends_by claim (Some sources.Done) None cutter body stands = absurd stands.0
ends_by claim (Some sources.Done) (Some reading) cutter body stands = inr (sym (ended_ending claim body stands.0))
ends_by claim (Some (sources.BadChunk place)) None cutter body stands = absurd stands.0
ends_by claim (Some (sources.BadChunk place)) (Some reading) cutter body stands =
    inr (sym (bad_ending claim body place stands.0))
ends_by claim (Some (sources.Worn given)) chunks cutter body stands = inl refl
ends_by claim (Some sources.Memory) chunks cutter body stands = inl refl

-- a source under this claim ended where its body did
pub source_ends : (claim : ℕ) (session : SourceSession) (body : List ℕ) → source_standing.StandsFor session body
    → EndsAs (option_map (end_of_source claim) session.halt)
    (claimed_ending (source_standing.is_chunked session) claim body)
source_ends claim session body stands = ends_by claim session.halt session.chunks session.cutter.value body stands

-- ---- the calls of a relay are those of a source

source_before : (first second : List Step) → AreSource (first ++ second) → AreSource second
source_before [] second are = are
source_before (step ∷ first) second are = source_before first second are.1

none_source : (short : Bool) (steps : List Step) → IsDone short done steps → AreSource steps
none_source short steps made = subst AreSource (sym (done_is_none short steps made)) tt

asked_source : (step : Step) (ask : Ask) → IsTrue (is_source_ask ask) → ask_of step ≡ ask
    → IsTrue (is_source_ask (ask_of step))
asked_source step ask is same = subst (λ (a : Ask). IsTrue (is_source_ask a)) (sym same) is

publishing_source : (short : Bool) (mount claim : ℕ) (frames : List (List ℕ)) (steps : List Step)
    → IsDone short (publishing mount claim frames) steps → AreSource steps
publishing_source short mount claim [] steps made = none_source short steps made
publishing_source false mount claim (frame ∷ frames) [] made = absurd made
publishing_source true mount claim (frame ∷ frames) [] begun = tt
publishing_source false mount claim (frame ∷ frames) (step ∷ steps) made = (
  asked_source step (to_ring mount (calls.Publish claim frame)) refl made.0,
  publishing_source false mount claim frames steps made.1,
)
publishing_source true mount claim (frame ∷ frames) (step ∷ steps) begun = (
  asked_source step (to_ring mount (calls.Publish claim frame)) refl begun.0,
  publishing_source true mount claim frames steps begun.1,
)

behind_claim : (short : Bool) (mount : ℕ) (frames : List (List ℕ)) (answer : Answer) (steps : List Step)
    → IsDone short (after_claim mount frames answer) steps → AreSource steps
behind_claim short mount frames (of_ring (rings.Given claim)) steps made =
    publishing_source short mount claim frames steps made
behind_claim short mount frames (of_ring (rings.Taken caller claim)) steps made = none_source short steps made
behind_claim short mount frames (of_ring rings.Released) steps made = none_source short steps made
behind_claim short mount frames (of_ring (rings.At place)) steps made = none_source short steps made
behind_claim short mount frames (of_ring (rings.Joined cursor)) steps made = none_source short steps made
behind_claim short mount frames (of_ring (rings.Looked live)) steps made = none_source short steps made
behind_claim short mount frames (of_ring (rings.Read report)) steps made = none_source short steps made
behind_claim short mount frames (of_book answer) steps made = none_source short steps made

pub owed_source : (short : Bool) (mount : ℕ) (answer : HeadAnswer) (bytes : List ℕ) (steps : List Step)
    → IsDone short (owed mount answer bytes) steps → AreSource steps
owed_source short mount heads.Open bytes steps made = none_source short steps made
owed_source short mount (heads.Refused why) bytes steps made = none_source short steps made
owed_source false mount (heads.Accepted at chunked) bytes [] made = absurd made
owed_source true mount (heads.Accepted at chunked) bytes [] begun = tt
owed_source false mount (heads.Accepted at chunked) bytes (step ∷ steps) made = (
  asked_source step (to_ring mount calls.Claim) refl made.0,
  behind_claim false mount _ (answer_of step) steps made.1,
)
owed_source true mount (heads.Accepted at chunked) bytes (step ∷ steps) begun = (
  asked_source step (to_ring mount calls.Claim) refl begun.0,
  behind_claim true mount _ (answer_of step) steps begun.1,
)

-- ---- what the other caster's answer is to this one

-- so it is judged
abbrev pub answer_judged : ℕ → List ℕ → HeadAnswer → Judged
answer_judged mount text heads.Open = waiting
answer_judged mount text (heads.Accepted at chunked) =
    source (record { version = None; mount = mount; chunked = chunked }) (drop at text)
answer_judged mount text (heads.Refused why) = finished None (ending_by_answer why)

-- a heading that says it
pub record IsSaid (mount : ℕ) (text : List ℕ) (answer : HeadAnswer) : Type 0 where
  pub heading : Heading
  pub is : IsAnswering text heading
  pub judged_is : relay_judged mount heading text ≡ answer_judged mount text answer

head_said : (mount : ℕ) (text : List ℕ) (at : ℕ) (said : Said) → HasHead text at said
    → relay_judged mount (answered at said) text ≡ said_judged mount (drop at text) said
head_said mount text at said has =
    ap (λ (b : Bool). once b (said_judged mount (drop at text) said)) (le-leb at (length text) has.0)

why_said : (mount : ℕ) (text : List ℕ) (why : Refusal) → (at : ℕ) × HasHead text at (Err why)
    → IsSaid mount text (heads.Refused why)
why_said mount text why (at, has) =
    record { heading = answered at (Err why); is = has; judged_is = head_said mount text at (Err why) has }

pub answer_said : (mount : ℕ) (text : List ℕ) (answer : HeadAnswer) → IsAnswer text answer → IsSaid mount text answer
answer_said mount text heads.Open says = record { heading = incomplete; is = says; judged_is = refl }
answer_said mount text (heads.Accepted at chunked) says =
    record { heading = answered at (Ok chunked); is = says; judged_is = head_said mount text at (Ok chunked) says }
answer_said mount text (heads.Refused refusals.LongHead) says = record {
  heading = too_long;
  is = says;
  judged_is = ap (λ (b : Bool). once b (finished None endings.LongHead)) (le-leb 8192 (length text) says.0);
}
answer_said mount text (heads.Refused refusals.BadHead) says = why_said mount text refusals.BadHead says
answer_said mount text (heads.Refused refusals.Coding) says = why_said mount text refusals.Coding says
answer_said mount text (heads.Refused refusals.Table) says = why_said mount text refusals.Table says
answer_said mount text (heads.Refused (refusals.Status status)) says =
    why_said mount text (refusals.Status status) says

-- and what it owes is what the relay owes
pub answer_plan : (c : Config) (mount : ℕ) (text : List ℕ) (answer : HeadAnswer)
    → plan_of c (answer_judged mount text answer) ≡ owed mount answer text
answer_plan c mount text heads.Open = refl
answer_plan c mount text (heads.Accepted at chunked) = refl
answer_plan c mount text (heads.Refused why) = refl

-- ---- halts

source_halted : (claim : Option ℕ) (halt : Option SourceHalt)
    → is_halted (option_map (end_of_relay claim) (option_map halt_of_source halt))
    ≡ source_standing.is_cut_short halt
source_halted claim None = refl
source_halted claim (Some sources.Done) = refl
source_halted claim (Some (sources.BadChunk place)) = refl
source_halted claim (Some (sources.Worn given)) = refl
source_halted claim (Some sources.Memory) = refl

turn_halted : (claim : Option ℕ) (halt : RelayHalt) → is_halt (end_of_relay claim halt) ≡ is_refused_turn halt
turn_halted claim halts.BadHead = refl
turn_halted claim halts.LongHead = refl
turn_halted claim halts.Coding = refl
turn_halted claim halts.Table = refl
turn_halted claim (halts.Status status) = refl
turn_halted claim (halts.Taken caller held) = refl
turn_halted claim halts.Done = refl
turn_halted claim (halts.BadChunk place) = refl
turn_halted claim (halts.Worn given) = refl
turn_halted claim halts.Memory = refl

-- a relay's turn was refused exactly where its ending is a halt
pub relay_halted : (claim : Option ℕ) (stage : RelayStage)
    → is_halted (option_map (end_of_relay claim) (halt_at stage)) ≡ is_short_at stage
relay_halted claim (stages.Head head cutter) = refl
relay_halted claim (stages.Body session) = source_halted claim session.halt
relay_halted claim (stages.Halted halt) = turn_halted claim halt

-- and goes on where it has none
goes_unended : (claim : Option ℕ) (halt : Option RelayHalt) → option_map (end_of_relay claim) halt ≡ None
    → IsTrue (is_none halt)
goes_unended claim None none = refl
goes_unended claim (Some halt) none = absurd cc

-- ---- how a relay ends

source_end : (claim : ℕ) (halt : Option SourceHalt)
    → option_map (end_of_relay (Some claim)) (option_map halt_of_source halt) ≡ option_map (end_of_source claim) halt
source_end claim None = refl
source_end claim (Some sources.Done) = refl
source_end claim (Some (sources.BadChunk place)) = refl
source_end claim (Some (sources.Worn given)) = refl
source_end claim (Some sources.Memory) = refl

refused_ends : (mount : ℕ) (answer : HeadAnswer) (why : Refusal) (text : List ℕ) (steps : List Step)
    → answer ≡ heads.Refused why
    → EndsAs (Some (ending_by_answer why)) (ended_by (came_to (answer_judged mount text answer) steps))
refused_ends mount answer why text steps is =
    inr (sym (ap (λ (a : HeadAnswer). ended_by (came_to (answer_judged mount text a) steps)) is))

taken_ends : (mount caller held : ℕ) (answer : HeadAnswer) (text : List ℕ) (steps : List Step)
    → IsAccepted answer → steps ≡ at_ring mount calls.Claim (rings.Taken caller held) ∷ []
    → EndsAs (Some (endings.Taken caller held)) (ended_by (came_to (answer_judged mount text answer) steps))
taken_ends mount caller held heads.Open text steps accepted is = absurd accepted
taken_ends mount caller held (heads.Accepted at chunked) text steps accepted is =
    inr (sym (ap (λ (l : List Step). ended_by (came_to (answer_judged mount text (heads.Accepted at chunked)) l)) is))
taken_ends mount caller held (heads.Refused why) text steps accepted is = absurd accepted

halted_ends : (mount : ℕ) (answer : HeadAnswer) (text : List ℕ) (steps : List Step) (halt : RelayHalt)
    → IsHaltedBy mount answer steps halt
    → EndsAs (Some (end_of_relay None halt)) (ended_by (came_to (answer_judged mount text answer) steps))
halted_ends mount answer text steps halts.BadHead is = refused_ends mount answer refusals.BadHead text steps is
halted_ends mount answer text steps halts.LongHead is = refused_ends mount answer refusals.LongHead text steps is
halted_ends mount answer text steps halts.Coding is = refused_ends mount answer refusals.Coding text steps is
halted_ends mount answer text steps halts.Table is = refused_ends mount answer refusals.Table text steps is
halted_ends mount answer text steps (halts.Status status) is =
    refused_ends mount answer (refusals.Status status) text steps is
halted_ends mount answer text steps (halts.Taken caller held) is =
    taken_ends mount caller held answer text steps is.0 is.1
halted_ends mount answer text steps halts.Done is = absurd is
halted_ends mount answer text steps (halts.BadChunk place) is = absurd is
halted_ends mount answer text steps (halts.Worn given) is = inl refl
halted_ends mount answer text steps halts.Memory is = inl refl

body_ends : (mount me : ℕ) (session : SourceSession) (answer : HeadAnswer) (text : List ℕ) (steps : List Step)
    → HasBody mount me session answer text steps
    → EndsAs (option_map (end_of_relay (Some session.claim)) (option_map halt_of_source session.halt))
    (ended_by (came_to (answer_judged mount text answer) steps))
body_ends mount me session answer text steps body =
    let whole : ended_by (came_to (answer_judged mount text answer) steps)
    ≡ claimed_ending (source_standing.is_chunked session) session.claim (drop body.at text) =
    ap (λ (a : HeadAnswer). ended_by (came_to (answer_judged mount text a) steps)) body.accepted
    ∙ ap (λ (a : Option Answer). ended_by (came_by (answer_judged mount text
    (heads.Accepted body.at (source_standing.is_chunked session))) a))
    (claimed_received mount session.claim steps body.claimed) in
    subst (λ (ended : Option Ending). EndsAs ended (ended_by (came_to (answer_judged mount text answer) steps)))
    (sym (source_end session.claim session.halt))
    (subst (EndsAs (option_map (end_of_source session.claim) session.halt)) (sym whole)
    (source_ends session.claim session (drop body.at text) body.stands))

pub relay_ends : (mount me : ℕ) (stage : RelayStage) (answer : HeadAnswer) (text : List ℕ) (steps : List Step)
    → relay_standing.IsAtStage mount me stage answer text steps
    → EndsAs (option_map (end_of_relay (claim_at stage)) (halt_at stage))
    (ended_by (came_to (answer_judged mount text answer) steps))
relay_ends mount me (stages.Head head cutter) answer text steps at =
    inr (sym (ap (λ (a : HeadAnswer). ended_by (came_to (answer_judged mount text a) steps)) at.1))
relay_ends mount me (stages.Body session) answer text steps at = body_ends mount me session answer text steps at
relay_ends mount me (stages.Halted halt) answer text steps at = halted_ends mount answer text steps halt at

-- ---- nothing is sent to a caster behind the request

source_unreplied : (c : Config) (mount : ℕ) (chunked : Bool) (body : List ℕ) (by : Option Answer)
    → reply_of c (came_by (source (record { version = None; mount = mount; chunked = chunked }) body) by) ≡ []
source_unreplied c mount chunked body None = refl
source_unreplied c mount chunked body (Some (of_ring (rings.Given claim))) = refl
source_unreplied c mount chunked body (Some (of_ring (rings.Taken caller claim))) = refl
source_unreplied c mount chunked body (Some (of_ring rings.Released)) = refl
source_unreplied c mount chunked body (Some (of_ring (rings.At place))) = refl
source_unreplied c mount chunked body (Some (of_ring (rings.Joined cursor))) = refl
source_unreplied c mount chunked body (Some (of_ring (rings.Looked live))) = refl
source_unreplied c mount chunked body (Some (of_ring (rings.Read report))) = refl
source_unreplied c mount chunked body (Some (of_book answer)) = refl

once_unreplied : (c : Config) (b : Bool) (j : Judged) (by : Option Answer) → reply_of c (came_by j by) ≡ []
    → reply_of c (came_by (once b j) by) ≡ []
once_unreplied c true j by none = none
once_unreplied c false j by none = refl

said_unreplied : (c : Config) (mount : ℕ) (body : List ℕ) (said : Said) (by : Option Answer)
    → reply_of c (came_by (said_judged mount body said) by) ≡ []
said_unreplied c mount body (Ok chunked) by = source_unreplied c mount chunked body by
said_unreplied c mount body (Err why) by = refl

relay_unreplied : (c : Config) (mount : ℕ) (heading : Heading) (text : List ℕ) (by : Option Answer)
    → reply_of c (came_by (relay_judged mount heading text) by) ≡ []
relay_unreplied c mount incomplete text by = refl
relay_unreplied c mount too_long text by = once_unreplied c (nat_le 8192 (length text)) _ by refl
relay_unreplied c mount (whole at answer) text by = refl
relay_unreplied c mount (answered at said) text by =
    once_unreplied c (nat_le at (length text)) _ by (said_unreplied c mount (drop at text) said by)

pub relay_unsent : (c : Config) (histories : List (History RingCall)) (opening : Opening) (n : ℕ) (heading : Heading)
    (text : List ℕ) (by : Option Answer) (segments : List Segment) → opening ≡ relays n → segments ≡ []
    → sent_by c histories opening (came_by (judged c opening heading text) by) (reverse segments) ≡ opening_text c opening
relay_unsent c histories opening n heading text by segments opens none =
    ap (λ (s : List Segment). sent_by c histories opening (came_by (judged c opening heading text) by) (reverse s)) none
    ∙ append-nil (opening_text c opening ++ reply_of c (came_by (judged c opening heading text) by))
    ∙ ap (λ (l : List ℕ). opening_text c opening ++ l)
    (ap (λ (o : Opening). reply_of c (came_by (judged c o heading text) by)) opens
    ∙ relay_unreplied c (mount_fed (slice_get c.relay n)) heading text by)
    ∙ append-nil (opening_text c opening)

-- ---- the whole

-- for the longer answer
stands_fed : (c : Config) (now : Histories) (new : Session) (opening : Opening) (text : List ℕ) (steps : List Step)
    (sent : List ℕ) (n mount : ℕ) (fed : RelaySession)
    → opening ≡ relays n → mount_fed (slice_get c.relay n) ≡ mount → mount < length c.mount → fed.me ≡ new.me
    → new.stage ≡ Relay mount fed
    → new.ended ≡ option_map (end_of_relay (claim_at fed.stage)) (halt_at fed.stage)
    → relay_standing.StandsFor mount fed text steps → segments_after [] steps ≡ []
    → IsHoldingBy new.me (claim_at fed.stage) (history_at now.rings mount) → sent ≡ opening_text c opening
    → Stands c new opening text steps now sent
stands_fed c now new opening text steps sent n mount fed opens feeds within caller is_stage is_ended stands none holds
    unsent =
    let said : IsSaid mount text stands.answer = answer_said mount text stands.answer stands.says in
    let judged_is : judged c opening said.heading text ≡ answer_judged mount text stands.answer =
    ap (λ (o : Opening). judged c o said.heading text) opens
    ∙ ap (λ (m : ℕ). relay_judged m said.heading text) feeds ∙ said.judged_is in
    let short : is_halted new.ended ≡ is_short_at fed.stage =
    ap is_halted is_ended ∙ relay_halted (claim_at fed.stage) fed.stage in
    let quiet : owed_among steps ≡ steps =
    source_owed steps (owed_source (is_short_at fed.stage) mount stands.answer text steps stands.made) in
    record {
      heading = said.heading;
      is_heading = subst (λ (o : Opening). IsHeadingOf (Some o) text said.heading) (sym opens) said.is;
      owes = subst (λ (b : Bool). IsMadeBy b (plan_of c (judged c opening said.heading text)) (owed_among steps))
          (sym short)
          (subst (λ (p : Plan). IsMadeBy (is_short_at fed.stage) p (owed_among steps))
          (sym (ap (plan_of c) judged_is ∙ answer_plan c mount text stands.answer))
          (subst (IsMadeBy (is_short_at fed.stage) (owed mount stands.answer text)) (sym quiet)
          stands.made));
      ends = subst (λ (e : Option Ending). EndsAs e (ended_by (came_to (judged c opening said.heading text) steps)))
          (sym is_ended)
          (subst (λ (j : Judged). EndsAs (option_map (end_of_relay (claim_at fed.stage)) (halt_at fed.stage))
          (ended_by (came_to j steps))) (sym judged_is)
          (relay_ends mount fed.me fed.stage stands.answer text steps stands.at_stage));
      stage = subst (λ (s : SessionStage). IsAtStage c new.me now opening (judged c opening said.heading text) text steps s)
          (sym is_stage) (record {
            number = n;
            opens = opens;
            mount_is = feeds;
            within = within;
            caller = caller;
            stands = stands;
            segments = none;
            holds = holds;
          });
      halts = subst (λ (s : SessionStage). EndsAt s new.ended) (sym is_stage) (record {
        goes = λ unended. goes_unended (claim_at fed.stage) (halt_at fed.stage) (sym is_ended ∙ unended);
        refused = λ refused. subst IsTrue (sym short) refused;
      });
      sent_is = sent_all (is_halted_uncalled new.ended steps) sent _
          (unsent ∙ sym (relay_unsent c now.rings opening n said.heading text (first_answer steps)
          (segments_after [] steps) opens none));
    }

pub relay_fed_on : (c : Config) (alone : Bool) (old now histories : Histories) (session new : Session)
    (opening : Opening) (text bytes : List ℕ) (steps : List Step) (sent : List ℕ) (mount : ℕ)
    (inner fed : RelaySession)
    → session.stage ≡ Relay mount inner → session.ended ≡ None → new.me ≡ session.me → new.stage ≡ Relay mount fed
    → new.ended ≡ option_map (end_of_relay (claim_at fed.stage)) (halt_at fed.stage)
    → Stands c session opening text steps histories sent
    → fed.me ≡ inner.me
    → ((before : List ℕ) (ss : List Step) → relay_standing.StandsFor mount inner before ss
    → RelayFed (shapes c) alone old.rings now.rings inner.me mount fed (before ++ bytes) ss)
    → IsHoldingBy inner.me (claim_at fed.stage) (history_at now.rings mount)
    → now.book ≡ old.book
    → FedOn c alone old now new opening (text ++ bytes) steps sent
relay_fed_on c alone old now histories session new opening text bytes steps sent mount inner fed is_stage unended is_me
    new_stage new_ended stands same_me feeds holds same_book =
    let at : IsRelay c session.me histories opening text steps mount inner =
    subst (λ (s : SessionStage). IsAtStage c session.me histories opening (judged c opening stands.heading text) text steps s)
    is_stage stands.stage in
    let given : RelayFed (shapes c) alone old.rings now.rings inner.me mount fed (text ++ bytes) steps =
    feeds text steps at.stands in
    let me : inner.me ≡ new.me = at.caller ∙ sym is_me in
    let went : Went (shapes c) alone old.rings now.rings new.me given.more =
    subst (λ (m : ℕ). Went (shapes c) alone old.rings now.rings m given.more) me given.went in
    let are : AreSource given.more =
    source_before steps given.more (owed_source (is_short_at fed.stage) mount given.stands.answer (text ++ bytes)
    (steps ++ given.more) given.stands.made) in
    let none : segments_after [] (steps ++ given.more) ≡ [] =
    segments-append [] steps given.more
    ∙ ap (λ (s : List Segment). segments_after s given.more) at.segments
    ∙ quiet_on (shapes c) alone old.rings now.rings new.me given.more [] went are in
    let unsent : sent ≡ opening_text c opening =
    subst (λ (e : Option Ending). IsSentBy (is_halted_uncalled e steps) sent (sent_by c histories.rings opening
    (came_to (judged c opening stands.heading text) steps) (reverse (segments_after [] steps)))) unended stands.sent_is
    ∙ relay_unsent c histories.rings opening at.number stands.heading text (first_answer steps)
    (segments_after [] steps) at.opens at.segments in
    record {
      more = given.more;
      called = record {
        rings = went;
        book = subst (λ (h : History BookCall). Heard alone (book_answer c) old.book h new.me (on_book given.more))
            (sym same_book)
            (subst (λ (l : List (BookCall × BookAnswer)). Heard alone (book_answer c) old.book old.book new.me l)
            (sym (source_off given.more are)) (heard_none alone (book_answer c) old.book new.me));
      };
      no_read = source_owed given.more are;
      stands = stands_fed c now new opening (text ++ bytes) (steps ++ given.more) sent at.number mount fed at.opens
          at.mount_is at.within (same_me ∙ me) new_stage new_ended given.stands none
          (subst (λ (m : ℕ). IsHoldingBy m (claim_at fed.stage) (history_at now.rings mount)) me holds) unsent;
    }
