-- More bytes: what is owed goes on with what was owed, and what a head says of earlier bytes is
-- what was said of them then.
use Rattle.std.proofs.Common.{◌≡◌, ◌<◌, ℕ, Bool, true, false, List, [], ◌∷◌, ◌++◌, length, drop, length-append, refl, sym, subst, inl, inr, arith, Option, None, Some, Result, Ok, Err}
use Rattle.std.specs.Prelude.{nat_le, slice_get}
use Rattle.std.proofs.lemmas.Bool.{cases_lt, lt-leb, le-leb}
use Rattle.std.proofs.lemmas.List.{drop-append-le}
use Rattle.gga_read.specs.declared.Position.{Position}
use Rattle.mount_ring.specs.declared.call.RingAnswer.TheVariants as rings
use Rattle.session_calls.specs.Steps.{Answer, of_ring, of_book}
use Rattle.session_calls.specs.Plans.{Plan, done, Begins}
use Rattle.source_session.specs.Body.{frames_of, completed}
use Rattle.source_session.proofs.BodyLemmas.{frames_more}
use Rattle.upstream_relay.specs.Owed.{publishing, after_claim}
use Rattle.rover_session.proofs.FollowLemmas.{rover_begins}
use Rattle.ntrip_head.specs.declared.fault.HeadFault.{HeadFault}
use Rattle.ntrip_head.specs.declared.fault.HeadFault.TheVariants as heads
use Rattle.ntrip_head.specs.declared.request.Version.{Version}
use Rattle.ntrip_head.specs.declared.request.Auth.TheVariants as auths
use Rattle.ntrip_head.specs.declared.request.Request.{Request}
use Rattle.ntrip_head.specs.declared.request.Request.TheVariants as requests
use Rattle.ntrip_client.specs.Answer.{Said}
use Rattle.cast_config.specs.declared.config.Config.{Config}
use Rattle.access_groups.specs.declared.admission.Admission.{Admission}
use Rattle.access_groups.specs.declared.admission.Denial.{Denial}
use Rattle.access_groups.specs.declared.admission.Denial.TheVariants as denials
use Rattle.access_groups.specs.declared.admission.SourceDenial.{SourceDenial}
use Rattle.access_groups.specs.declared.admission.SourceDenial.TheVariants as sources
use Rattle.access_groups.specs.Admission.{admission, source_admission}
use Rattle.session_model.specs.Headings.{Heading, incomplete, too_long, whole, answered}
use Rattle.session_model.proofs.HeadingLemmas.{said_from}
use Rattle.session_model.specs.Judged.{Opening, sends_head, relays, bare_source, bare_rover, SourceTerms, RoverTerms, Judged, waiting, once, source_judged, rover_judged, request_judged, heading_judged, said_judged, relay_judged, mount_fed, judged, bare_admission}
use Rattle.session_model.specs.Owed.{is_let_in, source_plan, if_entered, terms_of, entering_plan, plan_of}

-- ---- a source

publishing_begins : (mount claim : ℕ) (frames more : List (List ℕ))
    → Begins (publishing mount claim frames) (publishing mount claim (frames ++ more))
publishing_begins mount claim [] more = tt
publishing_begins mount claim (frame ∷ frames) more = (refl, λ answer. publishing_begins mount claim frames more)

claim_begins : (mount : ℕ) (frames more : List (List ℕ)) (answer : Answer)
    → Begins (after_claim mount frames answer) (after_claim mount (frames ++ more) answer)
claim_begins mount frames more (of_ring (rings.Given claim)) = publishing_begins mount claim frames more
claim_begins mount frames more (of_ring (rings.Taken caller claim)) = tt
claim_begins mount frames more (of_ring rings.Released) = tt
claim_begins mount frames more (of_ring (rings.At place)) = tt
claim_begins mount frames more (of_ring (rings.Joined cursor)) = tt
claim_begins mount frames more (of_ring (rings.Looked live)) = tt
claim_begins mount frames more (of_ring (rings.Read report)) = tt
claim_begins mount frames more (of_book answer) = tt

pub source_begins : (terms : SourceTerms) (body more : List ℕ)
    → Begins (source_plan terms body) (source_plan terms (body ++ more))
source_begins terms body more = (
  refl,
  λ answer.
      subst (λ (frames : List (List ℕ)). Begins (after_claim terms.mount (frames_of terms.chunked body) answer)
      (after_claim terms.mount frames answer))
      (sym (frames_more terms.chunked body more))
      (claim_begins terms.mount (frames_of terms.chunked body) (completed terms.chunked body more) answer),
)

-- ---- a rover

entered_begins : (let_in : Bool) (p q : Plan) → Begins p q → Begins (if_entered let_in p) (if_entered let_in q)
entered_begins true p q begins = begins
entered_begins false p q begins = tt

pub entering_begins : (c : Config) (terms : RoverTerms) (tail more : List ℕ)
    → Begins (entering_plan c terms tail) (entering_plan c terms (tail ++ more))
entering_begins c terms tail more = (
  refl,
  λ answer.
      entered_begins (is_let_in answer) _ _ (rover_begins (terms_of c terms.admission) terms.first tail more),
)

-- ---- who is let in

source_grows : (c : Config) (version : Option Version) (chunked : Bool) (body more : List ℕ) (r : Result ℕ SourceDenial)
    → Begins (plan_of c (source_judged version chunked body r)) (plan_of c (source_judged version chunked
    (body ++ more) r))
source_grows c version chunked body more (Ok mount) =
    source_begins (record { version = version; mount = mount; chunked = chunked }) body more
source_grows c version chunked body more (Err sources.NoMount) = tt
source_grows c version chunked body more (Err sources.Password) = tt

rover_grows : (c : Config) (version : Option Version) (first : Option Position) (tail more : List ℕ)
    (r : Result Admission Denial)
    → Begins (plan_of c (rover_judged version first tail r)) (plan_of c (rover_judged version first (tail ++ more) r))
rover_grows c version first tail more (Ok admission) =
    entering_begins c (record { version = version; admission = admission; first = first }) tail more
rover_grows c version first tail more (Err denials.NoMount) = tt
rover_grows c version first tail more (Err denials.NoAccount) = tt
rover_grows c version first tail more (Err (denials.Password account)) = tt
rover_grows c version first tail more (Err (denials.Group group)) = tt

request_grows : (c : Config) (body more : List ℕ) (r : Result Request HeadFault)
    → Begins (plan_of c (request_judged c body r)) (plan_of c (request_judged c (body ++ more) r))
request_grows c body more (Err heads.Bad) = tt
request_grows c body more (Err heads.Method) = tt
request_grows c body more (Err heads.Coding) = tt
request_grows c body more (Ok (requests.Table version)) = tt
request_grows c body more (Ok (requests.Rover version mount auth first)) =
    rover_grows c (Some version) first body more (admission c auth mount)
request_grows c body more (Ok (requests.Source version mount password chunked)) =
    source_grows c (Some version) chunked body more (source_admission c mount password)

said_grows : (c : Config) (mount : ℕ) (body more : List ℕ) (said : Said)
    → Begins (plan_of c (said_judged mount body said)) (plan_of c (said_judged mount (body ++ more) said))
said_grows c mount body more (Ok chunked) =
    source_begins (record { version = None; mount = mount; chunked = chunked }) body more
said_grows c mount body more (Err refusal) = tt

-- ---- behind a head

-- of bytes that hold the head, and of bytes that do not
once_grows : (c : Config) (at : ℕ) (text more : List ℕ) (said : List ℕ → Judged)
    → ((body : List ℕ) → Begins (plan_of c (said body)) (plan_of c (said (body ++ more))))
    → Begins (plan_of c (once (nat_le at (length text)) (said (drop at text))))
    (plan_of c (once (nat_le at (length (text ++ more))) (said (drop at (text ++ more)))))
once_grows c at text more said grows = elim (cases_lt (length text) at) [
  | inl before ↦ rw (lt-leb at (length text) before) tt
  | inr behind ↦
      let rest : Begins (plan_of c (said (drop at text))) (plan_of c (said (drop at (text ++ more)))) =
      subst (λ (body : List ℕ). Begins (plan_of c (said (drop at text))) (plan_of c (said body)))
      (sym (drop-append-le at text more behind)) (grows (drop at text)) in
      rw (le-leb at (length text) behind)
      (rw (le-leb at (length (text ++ more)) (omega (arith, behind, length-append text more))) rest)
]

-- a head without an end owes nothing, whether it is that long already or not
over_grows : (c : Config) (b later : Bool) (j : Judged) → plan_of c j ≡ done
    → Begins (plan_of c (once b j)) (plan_of c (once later j))
over_grows c false later j none = tt
over_grows c true later j none = subst (λ (p : Plan). Begins p (plan_of c (once later j))) (sym none) tt

heading_grows : (c : Config) (h : Heading) (text more : List ℕ)
    → Begins (plan_of c (heading_judged c h text)) (plan_of c (heading_judged c h (text ++ more)))
heading_grows c incomplete text more = tt
heading_grows c too_long text more =
    over_grows c (nat_le 8192 (length text)) (nat_le 8192 (length (text ++ more))) _ refl
heading_grows c (whole at answer) text more =
    once_grows c at text more (λ body. request_judged c body answer) (λ body. request_grows c body more answer)
heading_grows c (answered at said) text more = tt

relay_grows : (c : Config) (mount : ℕ) (h : Heading) (text more : List ℕ)
    → Begins (plan_of c (relay_judged mount h text)) (plan_of c (relay_judged mount h (text ++ more)))
relay_grows c mount incomplete text more = tt
relay_grows c mount too_long text more =
    over_grows c (nat_le 8192 (length text)) (nat_le 8192 (length (text ++ more))) _ refl
relay_grows c mount (whole at answer) text more = tt
relay_grows c mount (answered at said) text more =
    once_grows c at text more (λ body. said_judged mount body said) (λ body. said_grows c mount body more said)

pub plan_grows : (c : Config) (o : Opening) (h : Heading) (text more : List ℕ)
    → Begins (plan_of c (judged c o h text)) (plan_of c (judged c o h (text ++ more)))
plan_grows c sends_head h text more = heading_grows c h text more
plan_grows c (relays n) h text more = relay_grows c (mount_fed (slice_get c.relay n)) h text more
plan_grows c (bare_source mount) h text more =
    source_grows c None false text more (bare_admission c mount)
plan_grows c (bare_rover mount) h text more =
    rover_grows c None None text more (admission c auths.None mount)

-- ---- before the head is whole

waits_before : (at : ℕ) (text : List ℕ) (j : Judged) → length text < at
    → once (nat_le at (length text)) j ≡ waiting
waits_before at text j before = rw (lt-leb at (length text) before) refl

pub heading_before : (c : Config) (h : Heading) (text : List ℕ) → length text < said_from h
    → heading_judged c h text ≡ waiting
heading_before c incomplete text before = refl
heading_before c too_long text before = waits_before 8192 text _ before
heading_before c (whole at answer) text before = waits_before at text _ before
heading_before c (answered at said) text before = refl

pub relay_before : (mount : ℕ) (h : Heading) (text : List ℕ) → length text < said_from h
    → relay_judged mount h text ≡ waiting
relay_before mount incomplete text before = refl
relay_before mount too_long text before = waits_before 8192 text _ before
relay_before mount (whole at answer) text before = refl
relay_before mount (answered at said) text before = waits_before at text _ before
