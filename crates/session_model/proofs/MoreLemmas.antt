-- What more bytes make of a connection that is judged: its body or its reports go on, and nothing
-- else changes.
use Rattle.std.proofs.Common.{◌≡◌, ◌≢◌, ◌∙◌, ℕ, Bool, false, List, ◌++◌, length, drop, length-append, refl, ap, inl, inr, arith, Option, None, Some, Result, Ok, Err}
use Rattle.std.specs.Prelude.{nat_le, slice_get}
use Rattle.std.proofs.lemmas.Bool.{cases_lt, lt-leb, le-leb}
use Rattle.std.proofs.lemmas.List.{drop-append-le}
use Rattle.gga_read.specs.declared.Position.{Position}
use Rattle.ntrip_head.specs.declared.fault.HeadFault.{HeadFault}
use Rattle.ntrip_head.specs.declared.fault.HeadFault.TheVariants as heads
use Rattle.ntrip_head.specs.declared.request.Version.{Version}
use Rattle.ntrip_head.specs.declared.request.Version.TheVariants.{One}
use Rattle.ntrip_head.specs.declared.request.Auth.TheVariants as auths
use Rattle.ntrip_head.specs.declared.request.Request.{Request}
use Rattle.ntrip_head.specs.declared.request.Request.TheVariants as requests
use Rattle.ntrip_reply.specs.declared.kind.Reply.TheVariants as replies
use Rattle.ntrip_client.specs.Answer.{Said}
use Rattle.cast_config.specs.declared.config.Config.{Config}
use Rattle.access_groups.specs.declared.admission.Admission.{Admission}
use Rattle.access_groups.specs.declared.admission.Denial.{Denial}
use Rattle.access_groups.specs.declared.admission.Denial.TheVariants as denials
use Rattle.access_groups.specs.declared.admission.SourceDenial.{SourceDenial}
use Rattle.access_groups.specs.declared.admission.SourceDenial.TheVariants as sources
use Rattle.access_groups.specs.Admission.{admission, source_admission}
use Rattle.session_model.specs.declared.ending.Ending.TheVariants as endings
use Rattle.session_model.specs.Headings.{Heading, incomplete, too_long, whole, answered}
use Rattle.session_model.specs.Judged.{Opening, sends_head, relays, bare_source, bare_rover, Judged, waiting, finished, source, rover, once, source_judged, rover_judged, request_judged, heading_judged, said_judged, relay_judged, mount_fed, judged, bare_admission}
use Rattle.session_model.specs.Reports.{IsHeadingOf}
use Rattle.session_model.proofs.LawLemmas.{of_stays, long_says, whole_says, answered_says}

-- so a judgment goes on
abbrev pub with_more : Judged → List ℕ → Judged
with_more waiting more = waiting
with_more (finished reply end) more = finished reply end
with_more (source terms body) more = source terms (body ++ more)
with_more (rover terms tail) more = rover terms (tail ++ more)

-- ---- who is let in

source_more : (version : Option Version) (chunked : Bool) (body more : List ℕ) (r : Result ℕ SourceDenial)
    → source_judged version chunked (body ++ more) r ≡ with_more (source_judged version chunked body r) more
source_more version chunked body more (Ok mount) = refl
source_more version chunked body more (Err sources.NoMount) = refl
source_more version chunked body more (Err sources.Password) = refl

rover_more : (version : Option Version) (first : Option Position) (tail more : List ℕ) (r : Result Admission Denial)
    → rover_judged version first (tail ++ more) r ≡ with_more (rover_judged version first tail r) more
rover_more version first tail more (Ok admission) = refl
rover_more version first tail more (Err denials.NoMount) = refl
rover_more version first tail more (Err denials.NoAccount) = refl
rover_more version first tail more (Err (denials.Password account)) = refl
rover_more version first tail more (Err (denials.Group group)) = refl

request_more : (c : Config) (body more : List ℕ) (r : Result Request HeadFault)
    → request_judged c (body ++ more) r ≡ with_more (request_judged c body r) more
request_more c body more (Err heads.Bad) = refl
request_more c body more (Err heads.Method) = refl
request_more c body more (Err heads.Coding) = refl
request_more c body more (Ok (requests.Table version)) = refl
request_more c body more (Ok (requests.Rover version mount auth first)) =
    rover_more (Some version) first body more (admission c auth mount)
request_more c body more (Ok (requests.Source version mount password chunked)) =
    source_more (Some version) chunked body more (source_admission c mount password)

said_more : (mount : ℕ) (body more : List ℕ) (said : Said)
    → said_judged mount (body ++ more) said ≡ with_more (said_judged mount body said) more
said_more mount body more (Ok chunked) = refl
said_more mount body more (Err refusal) = refl

-- ---- behind a head

-- of bytes that hold it
once_more : (at : ℕ) (text more : List ℕ) (said : List ℕ → Judged)
    → ((body : List ℕ) → said (body ++ more) ≡ with_more (said body) more)
    → once (nat_le at (length text)) (said (drop at text)) ≢ waiting
    → once (nat_le at (length (text ++ more))) (said (drop at (text ++ more)))
    ≡ with_more (once (nat_le at (length text)) (said (drop at text))) more
once_more at text more said goes not = elim (cases_lt (length text) at) [
  | inl before ↦ absurd (not (rw (lt-leb at (length text) before) refl))
  | inr behind ↦
      let rest : said (drop at (text ++ more)) ≡ with_more (said (drop at text)) more =
      ap said (drop-append-le at text more behind) ∙ goes (drop at text) in
      rw (le-leb at (length text) behind)
      (rw (le-leb at (length (text ++ more)) (omega (arith, behind, length-append text more))) rest)
]

heading_more : (c : Config) (h : Heading) (text more : List ℕ) → heading_judged c h text ≢ waiting
    → heading_judged c h (text ++ more) ≡ with_more (heading_judged c h text) more
heading_more c incomplete text more not = absurd (not refl)
heading_more c too_long text more not =
    once_more 8192 text more (λ body. finished (Some (One, replies.BadHead)) endings.LongHead) (λ body. refl) not
heading_more c (whole at answer) text more not =
    once_more at text more (λ body. request_judged c body answer) (λ body. request_more c body more answer) not
heading_more c (answered at said) text more not = absurd (not refl)

relay_more : (mount : ℕ) (h : Heading) (text more : List ℕ) → relay_judged mount h text ≢ waiting
    → relay_judged mount h (text ++ more) ≡ with_more (relay_judged mount h text) more
relay_more mount incomplete text more not = absurd (not refl)
relay_more mount too_long text more not =
    once_more 8192 text more (λ body. finished None endings.LongHead) (λ body. refl) not
relay_more mount (whole at answer) text more not = absurd (not refl)
relay_more mount (answered at said) text more not =
    once_more at text more (λ body. said_judged mount body said) (λ body. said_more mount body more said) not

pub judged_more : (c : Config) (o : Opening) (h : Heading) (text more : List ℕ) → judged c o h text ≢ waiting
    → judged c o h (text ++ more) ≡ with_more (judged c o h text) more
judged_more c sends_head h text more not = heading_more c h text more not
judged_more c (relays n) h text more not = relay_more (mount_fed (slice_get c.relay n)) h text more not
judged_more c (bare_source mount) h text more not = source_more None false text more (bare_admission c mount)
judged_more c (bare_rover mount) h text more not = rover_more None None text more (admission c auths.None mount)

-- ---- its heading is that of more bytes too

pub heading_goes : (c : Config) (o : Opening) (h : Heading) (text more : List ℕ) → judged c o h text ≢ waiting
    → IsHeadingOf (Some o) text h → IsHeadingOf (Some o) (text ++ more) h
heading_goes c sends_head incomplete text more not is = absurd (not refl)
heading_goes c sends_head too_long text more not is = of_stays sends_head text more too_long long_says is
heading_goes c sends_head (whole at answer) text more not is =
    of_stays sends_head text more (whole at answer) (whole_says at answer) is
heading_goes c sends_head (answered at said) text more not is = absurd is
heading_goes c (relays n) incomplete text more not is = absurd (not refl)
heading_goes c (relays n) too_long text more not is = of_stays (relays n) text more too_long long_says is
heading_goes c (relays n) (whole at answer) text more not is = absurd is
heading_goes c (relays n) (answered at said) text more not is =
    of_stays (relays n) text more (answered at said) (answered_says at said) is
heading_goes c (bare_source mount) h text more not is = is
heading_goes c (bare_rover mount) h text more not is = is
