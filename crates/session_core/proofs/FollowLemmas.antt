-- What a session that goes on may call, as it stands.
use Rattle.std.proofs.Common.{◌≡◌, ◌∙◌, ◌+◌, ◌<◌, ◌≤◌, ℕ, Bool, true, false, List, [], length, drop, refl, sym, ap, subst, inl, inr, arith, Option, None, Some, Result, Ok, Err}
use Rattle.std.specs.Prelude.{◌^◌, IfNone, is_none, nat_le, slice_get}
use Rattle.std.proofs.lemmas.List.{length-drop}
use Rattle.gga_read.specs.declared.Position.{Position}
use Rattle.turn_log.specs.History.{History, GoesOn}
use Rattle.mount_ring.specs.declared.call.RingCall.{RingCall}
use Rattle.session_calls.specs.Steps.{Step}
use Rattle.session_calls.specs.Rings.{history_at}
use Rattle.source_session.specs.declared.session.SourceSession.{SourceSession}
use Rattle.source_session.specs.declared.fault.SourceHalt.{SourceHalt}
use Rattle.source_session.specs.Calls.{HeldSince}
use Rattle.source_session.specs.Standing as source_standing
use Rattle.upstream_relay.specs.declared.session.RelaySession.{RelaySession}
use Rattle.upstream_relay.specs.declared.body.RelayStage.{RelayStage}
use Rattle.upstream_relay.specs.declared.body.RelayStage.TheVariants as stages
use Rattle.upstream_relay.specs.Called.{IsHeldAt, IsHoldingBy}
use Rattle.upstream_relay.specs.Standing as relay_standing
use Rattle.rover_session.specs.declared.session.RoverSession.{RoverSession}
use Rattle.rover_session.specs.Owed.{Terms}
use Rattle.rover_session.specs.Standing.{AreWithin, KnowsFilter, WasResumable}
use Rattle.ntrip_head.specs.declared.fault.HeadFault.{HeadFault}
use Rattle.ntrip_head.specs.declared.fault.HeadFault.TheVariants as heads
use Rattle.ntrip_head.specs.declared.request.Version.{Version}
use Rattle.ntrip_head.specs.declared.request.Auth.{Auth}
use Rattle.ntrip_head.specs.declared.request.Auth.TheVariants as auths
use Rattle.ntrip_head.specs.declared.request.Request.{Request}
use Rattle.ntrip_head.specs.declared.request.Request.TheVariants as requests
use Rattle.ntrip_client.specs.Answer.{Said}
use Rattle.cast_config.specs.declared.config.Config.{Config}
use Rattle.cast_config.specs.Kept.{KeepsRules}
use Rattle.access_groups.specs.declared.admission.Admission.{Admission}
use Rattle.access_groups.specs.declared.admission.Denial.{Denial}
use Rattle.access_groups.specs.declared.admission.Denial.TheVariants as denials
use Rattle.access_groups.specs.declared.admission.SourceDenial.{SourceDenial}
use Rattle.access_groups.specs.declared.admission.SourceDenial.TheVariants as sources
use Rattle.access_groups.specs.Admission.{admission, source_admission}
use Rattle.session_core.specs.declared.session.Session.{Session}
use Rattle.session_core.specs.declared.session_stage.SessionStage.TheVariants.{Source, Relay, Rover}
use Rattle.session_model.specs.Setting.{shapes, bases_at}
use Rattle.session_model.specs.Headings.{Heading, incomplete, too_long, whole, answered}
use Rattle.session_model.specs.Judged.{Opening, sends_head, relays, bare_source, bare_rover, Judged, waiting, finished, source, rover, once, source_judged, rover_judged, request_judged, heading_judged, said_judged, relay_judged, mount_fed, judged, bare_admission}
use Rattle.session_model.specs.Run.{Histories}
use Rattle.session_model.specs.Called.{OthersCalled}
use Rattle.session_core.specs.Standing.{Follows, IsAtStage, IsRelay, IsRover, IsSource, Stands, is_going}
use Rattle.session_core.proofs.AdmittedLemmas.{IsReady, is_ready}

-- a session that goes on was not lost
record GoesOnFrom (c : Config) (session : Session) (now : Histories) (more : ℕ) : Type 0 where
  pub opening : Opening
  pub text : List ℕ
  pub steps : List Step
  pub histories : Histories
  pub sent : List ℕ
  pub stands : Stands c session opening text steps histories sent
  pub others : OthersCalled histories now session.me
  pub few : length text + more < 2 ^ 63

goes_from : (c : Config) (session : Session) (now : Histories) (more : ℕ) → session.ended ≡ None
    → Follows c session now more → GoesOnFrom c session now more
goes_from c session now more unended (opening, text, steps, histories, sent, inr lost, others, few) =
    let clash : Some _ ≡ None = sym lost.ended ∙ unended in absurd cc
goes_from c session now more unended (opening, text, steps, histories, sent, inl stands, others, few) = record {
  opening = opening;
  text = text;
  steps = steps;
  histories = histories;
  sent = sent;
  stands = stands;
  others = others;
  few = few;
}

-- ---- a body is no longer than all bytes

abbrev body_in : Judged → List ℕ
body_in waiting = []
body_in (finished reply end) = []
body_in (source terms body) = body
body_in (rover terms tail) = []

-- nothing, or these bytes
abbrev IsShort : List ℕ → List ℕ → Type 0
IsShort body bytes = length body ≤ length bytes

source_short : (version : Option Version) (chunked : Bool) (body : List ℕ) (r : Result ℕ SourceDenial)
    → IsShort (body_in (source_judged version chunked body r)) body
source_short version chunked body (Ok mount) = omega arith
source_short version chunked body (Err sources.NoMount) = omega arith
source_short version chunked body (Err sources.Password) = omega arith

rover_short : (version : Option Version) (first : Option Position) (tail : List ℕ) (r : Result Admission Denial)
    → IsShort (body_in (rover_judged version first tail r)) tail
rover_short version first tail (Ok admission) = omega arith
rover_short version first tail (Err denials.NoMount) = omega arith
rover_short version first tail (Err denials.NoAccount) = omega arith
rover_short version first tail (Err (denials.Password account)) = omega arith
rover_short version first tail (Err (denials.Group group)) = omega arith

request_short : (c : Config) (body : List ℕ) (r : Result Request HeadFault)
    → IsShort (body_in (request_judged c body r)) body
request_short c body (Err heads.Bad) = omega arith
request_short c body (Err heads.Method) = omega arith
request_short c body (Err heads.Coding) = omega arith
request_short c body (Ok (requests.Table version)) = omega arith
request_short c body (Ok (requests.Rover version mount auth first)) =
    rover_short (Some version) first body (admission c auth mount)
request_short c body (Ok (requests.Source version mount password chunked)) =
    source_short (Some version) chunked body (source_admission c mount password)

said_short : (mount : ℕ) (body : List ℕ) (said : Said) → IsShort (body_in (said_judged mount body said)) body
said_short mount body (Ok chunked) = omega arith
said_short mount body (Err refusal) = omega arith

once_short : (b : Bool) (j : Judged) (text : List ℕ) → IsShort (body_in j) text → IsShort (body_in (once b j)) text
once_short true j text short = short
once_short false j text short = omega arith

drop_short : (at : ℕ) (text body : List ℕ) → IsShort body (drop at text) → IsShort body text
drop_short at text body short = omega (arith, short, length-drop at text)

heading_short : (c : Config) (h : Heading) (text : List ℕ) → IsShort (body_in (heading_judged c h text)) text
heading_short c incomplete text = omega arith
heading_short c too_long text = once_short (nat_le 8192 (length text)) _ text (omega arith)
heading_short c (whole at answer) text =
    once_short (nat_le at (length text)) (request_judged c (drop at text) answer) text
    (drop_short at text (body_in (request_judged c (drop at text) answer)) (request_short c (drop at text) answer))
heading_short c (answered at said) text = omega arith

relay_short : (mount : ℕ) (h : Heading) (text : List ℕ) → IsShort (body_in (relay_judged mount h text)) text
relay_short mount incomplete text = omega arith
relay_short mount too_long text = once_short (nat_le 8192 (length text)) _ text (omega arith)
relay_short mount (whole at answer) text = omega arith
relay_short mount (answered at said) text =
    once_short (nat_le at (length text)) (said_judged mount (drop at text) said) text
    (drop_short at text (body_in (said_judged mount (drop at text) said)) (said_short mount (drop at text) said))

judged_short : (c : Config) (o : Opening) (h : Heading) (text : List ℕ) → IsShort (body_in (judged c o h text)) text
judged_short c sends_head h text = heading_short c h text
judged_short c (relays n) h text = relay_short (mount_fed (slice_get c.relay n)) h text
judged_short c (bare_source mount) h text = source_short None false text (bare_admission c mount)
judged_short c (bare_rover mount) h text = rover_short None None text (admission c auths.None mount)

-- ---- a rover was admitted

abbrev IsLetIn : Config → Judged → Type 0
IsLetIn c waiting = Unit {0}
IsLetIn c (finished reply end) = Unit {0}
IsLetIn c (source terms body) = Unit {0}
IsLetIn c (rover terms tail) =
    (auth : Auth) × (name : List ℕ) × (admission c auth name ≡ Ok terms.admission)

source_in : (c : Config) (version : Option Version) (chunked : Bool) (body : List ℕ) (r : Result ℕ SourceDenial)
    → IsLetIn c (source_judged version chunked body r)
source_in c version chunked body (Ok mount) = tt
source_in c version chunked body (Err sources.NoMount) = tt
source_in c version chunked body (Err sources.Password) = tt

rover_in : (c : Config) (version : Option Version) (first : Option Position) (tail name : List ℕ) (auth : Auth)
    (r : Result Admission Denial) → admission c auth name ≡ r → IsLetIn c (rover_judged version first tail r)
rover_in c version first tail name auth (Ok a) is = (auth, name, is)
rover_in c version first tail name auth (Err denials.NoMount) is = tt
rover_in c version first tail name auth (Err denials.NoAccount) is = tt
rover_in c version first tail name auth (Err (denials.Password account)) is = tt
rover_in c version first tail name auth (Err (denials.Group group)) is = tt

request_in : (c : Config) (body : List ℕ) (r : Result Request HeadFault) → IsLetIn c (request_judged c body r)
request_in c body (Err heads.Bad) = tt
request_in c body (Err heads.Method) = tt
request_in c body (Err heads.Coding) = tt
request_in c body (Ok (requests.Table version)) = tt
request_in c body (Ok (requests.Rover version mount auth first)) =
    rover_in c (Some version) first body mount auth (admission c auth mount) refl
request_in c body (Ok (requests.Source version mount password chunked)) =
    source_in c (Some version) chunked body (source_admission c mount password)

once_in : (c : Config) (b : Bool) (j : Judged) → IsLetIn c j → IsLetIn c (once b j)
once_in c true j is = is
once_in c false j is = tt

said_in : (c : Config) (mount : ℕ) (body : List ℕ) (said : Said) → IsLetIn c (said_judged mount body said)
said_in c mount body (Ok chunked) = tt
said_in c mount body (Err refusal) = tt

heading_in : (c : Config) (h : Heading) (text : List ℕ) → IsLetIn c (heading_judged c h text)
heading_in c incomplete text = tt
heading_in c too_long text = once_in c (nat_le 8192 (length text)) _ tt
heading_in c (whole at answer) text =
    once_in c (nat_le at (length text)) (request_judged c (drop at text) answer) (request_in c (drop at text) answer)
heading_in c (answered at said) text = tt

relay_in : (c : Config) (mount : ℕ) (h : Heading) (text : List ℕ) → IsLetIn c (relay_judged mount h text)
relay_in c mount incomplete text = tt
relay_in c mount too_long text = once_in c (nat_le 8192 (length text)) _ tt
relay_in c mount (whole at answer) text = tt
relay_in c mount (answered at said) text =
    once_in c (nat_le at (length text)) (said_judged mount (drop at text) said) (said_in c mount (drop at text) said)

judged_in : (c : Config) (o : Opening) (h : Heading) (text : List ℕ) → IsLetIn c (judged c o h text)
judged_in c sends_head h text = heading_in c h text
judged_in c (relays n) h text = relay_in c (mount_fed (slice_get c.relay n)) h text
judged_in c (bare_source mount) h text = source_in c None false text (bare_admission c mount)
judged_in c (bare_rover mount) h text =
    rover_in c None None text mount auths.None (admission c auths.None mount) refl

-- ---- by stage

-- what is none holds nothing
none_there : {X : Type 0} (held : Option X) → is_none held ≡ true → held ≡ None
none_there None is = refl
none_there (Some x) is = absurd cc

pub record IsSourceReady (c : Config) (now : Histories) (me mount more : ℕ) (inner : SourceSession) : Type 0 where
  pub caller : inner.me ≡ me
  pub within : mount < length c.mount
  pub held : HeldSince inner.me inner.claim (history_at now.rings mount)
  pub few : (body : List ℕ) × source_standing.StandsFor inner body × (length body + more < 2 ^ 63)
  pub goes : inner.halt ≡ None

pub source_ready : (c : Config) (session : Session) (now : Histories) (more mount : ℕ) (inner : SourceSession)
    → session.stage ≡ Source mount inner → session.ended ≡ None → Follows c session now more
    → IsSourceReady c now session.me mount more inner
source_ready c session now more mount inner is unended follows =
    let from = goes_from c session now more unended follows in
    let j : Judged = judged c from.opening from.stands.heading from.text in
    let at : IsSource c session.me from.histories j from.steps mount inner =
    subst (IsAtStage c session.me from.histories from.opening j from.text from.steps) is from.stands.stage in
    let short : IsShort at.body from.text =
    subst (λ (x : Judged). IsShort (body_in x) from.text) at.judged_is
    (judged_short c from.opening from.stands.heading from.text) in
    record {
      caller = at.caller;
      within = at.within;
      held = subst (λ (m : ℕ). HeldSince m inner.claim (history_at now.rings mount)) (sym at.caller)
          (history_at from.histories.rings mount, at.holds, from.others.rings.rings mount);
      few = (at.body, at.stands, omega (arith, short, from.few));
      goes = none_there inner.halt (sym (ap is_going is) ∙ from.stands.halts.goes unended);
    }

held_stage : (me : ℕ) (stage : RelayStage) (h now : History RingCall)
    → IsHoldingBy me (relay_standing.claim_at stage) h → GoesOn me h now → IsHeldAt me stage now
held_stage me (stages.Head head cutter) h now holds goes = tt
held_stage me (stages.Halted halt) h now holds goes = tt
held_stage me (stages.Body inner) h now holds goes = held_by inner.halt where
  held_by : (halt : Option SourceHalt) → IfNone halt (HeldSince me inner.claim now)
  held_by None = (h, holds, goes)
  held_by (Some halt) = tt

pub record IsRelayReady (c : Config) (now : Histories) (me mount more : ℕ) (inner : RelaySession) : Type 0 where
  pub caller : inner.me ≡ me
  pub within : mount < length c.mount
  pub held : IsHeldAt inner.me inner.stage (history_at now.rings mount)
  pub few : (text : List ℕ) × (steps : List Step) × relay_standing.StandsFor mount inner text steps
      × (length text + more < 2 ^ 63)
  pub goes : relay_standing.halt_at inner.stage ≡ None

pub relay_ready : (c : Config) (session : Session) (now : Histories) (more mount : ℕ) (inner : RelaySession)
    → session.stage ≡ Relay mount inner → session.ended ≡ None → Follows c session now more
    → IsRelayReady c now session.me mount more inner
relay_ready c session now more mount inner is unended follows =
    let from = goes_from c session now more unended follows in
    let j : Judged = judged c from.opening from.stands.heading from.text in
    let at : IsRelay c session.me from.histories from.opening from.text from.steps mount inner =
    subst (IsAtStage c session.me from.histories from.opening j from.text from.steps) is from.stands.stage in
    record {
      caller = at.caller;
      within = at.within;
      held = subst (λ (m : ℕ). IsHeldAt m inner.stage (history_at now.rings mount)) (sym at.caller)
          (held_stage session.me inner.stage (history_at from.histories.rings mount) (history_at now.rings mount)
          at.holds (from.others.rings.rings mount));
      few = (from.text, from.steps, at.stands, from.few);
      goes = none_there (relay_standing.halt_at inner.stage) (sym (ap is_going is) ∙ from.stands.halts.goes unended);
    }

pub record IsRoverReady (c : Config) (now : Histories) (inner : RoverSession) : Type 0 where
  pub within : AreWithin (length c.mount) inner.terms.bases
  pub filter : KnowsFilter (shapes c) inner.terms.filter
  pub resumes : WasResumable (shapes c) inner.me now.rings inner.segments
  pub goes : inner.halt ≡ None

pub rover_ready : (c : Config) (session : Session) (now : Histories) (more account : ℕ) (inner : RoverSession)
    → ((cap : ℕ) × KeepsRules cap c) → session.stage ≡ Rover account inner → session.ended ≡ None
    → Follows c session now more → IsRoverReady c now inner
rover_ready c session now more account inner kept is unended follows =
    let from = goes_from c session now more unended follows in
    let j : Judged = judged c from.opening from.stands.heading from.text in
    let at : IsRover c session.me from.histories j from.steps account inner =
    subst (IsAtStage c session.me from.histories from.opening j from.text from.steps) is from.stands.stage in
    let let_in : (auth : Auth) × (name : List ℕ) × (admission c auth name ≡ Ok at.terms.admission) =
    subst (IsLetIn c) at.judged_is (judged_in c from.opening from.stands.heading from.text) in
    let ready : IsReady c at.terms.admission (bases_at c at.terms.admission.bases) =
    is_ready c at.terms.admission kept let_in in
    record {
      within = subst (λ (t : Terms). AreWithin (length c.mount) t.bases) (sym at.admitted) ready.within;
      filter = subst (λ (t : Terms). KnowsFilter (shapes c) t.filter) (sym at.admitted) ready.filter;
      resumes = subst (λ (m : ℕ). WasResumable (shapes c) m now.rings inner.segments) (sym at.caller) (
        from.histories.rings,
        at.resumes,
        from.others.rings,
      );
      goes = none_there inner.halt (sym (ap is_going is) ∙ from.stands.halts.goes unended);
    }
