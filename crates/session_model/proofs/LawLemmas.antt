-- One heading, one judgment, one report.
use Rattle.std.proofs.Common.{◌≡◌, ◌≢◌, ◌∙◌, ℕ, List, ◌++◌, refl, sym, ap, Option, None, Some, Result}
use Rattle.std.proofs.Math.Path.{fun_ext}
use Rattle.std.specs.Prelude.{slice_get}
use Rattle.ntrip_head.specs.declared.fault.HeadFault.{HeadFault}
use Rattle.ntrip_head.specs.declared.request.Request.{Request}
use Rattle.ntrip_client.specs.Answer.{Said}
use Rattle.cast_config.specs.declared.config.Config.{Config}
use Rattle.session_script.specs.declared.Event.{Event}
use Rattle.session_model.specs.declared.report.Report.{Report}
use Rattle.session_model.specs.Headings.{Heading, incomplete, too_long, whole, answered}
use Rattle.session_model.specs.Judged.{Opening, sends_head, relays, bare_source, bare_rover, mount_fed, judged}
use Rattle.session_model.specs.Reports.{IsHeadingOf, opened_as, bytes_to, IsReport, report}
use Rattle.session_model.proofs.HeadingLemmas.{one_heading, heading_stays, heading_waits}
use Rattle.session_model.proofs.AnsweringLemmas.{one_answering, answering_stays, answering_waits}
use Rattle.session_model.proofs.GrowLemmas.{heading_before, relay_before}

-- ---- of every opening

pub one_of : (o : Option Opening) (bytes : List ℕ) (a b : Heading) → IsHeadingOf o bytes a → IsHeadingOf o bytes b
    → a ≡ b
one_of None bytes a b x y = x ∙ sym y
one_of (Some sends_head) bytes a b x y = one_heading bytes a b x y
one_of (Some (relays n)) bytes a b x y = one_answering bytes a b x y
one_of (Some (bare_source mount)) bytes a b x y = x ∙ sym y
one_of (Some (bare_rover mount)) bytes a b x y = x ∙ sym y

pub of_stays : (o : Opening) (bytes more : List ℕ) (a : Heading) → a ≢ incomplete
    → IsHeadingOf (Some o) bytes a → IsHeadingOf (Some o) (bytes ++ more) a
of_stays sends_head bytes more a not x = heading_stays bytes more a not x
of_stays (relays n) bytes more a not x = answering_stays bytes more a not x
of_stays (bare_source mount) bytes more a not x = x
of_stays (bare_rover mount) bytes more a not x = x

-- ---- what was said

-- these say something
pub long_says : too_long ≢ incomplete
long_says e = absurd cc

pub whole_says : (at : ℕ) (answer : Result Request HeadFault) → whole at answer ≢ incomplete
whole_says at answer e = absurd cc

pub answered_says : (at : ℕ) (said : Said) → answered at said ≢ incomplete
answered_says at said e = absurd cc

-- of a heading that says something already, and of one that does not yet
same_said : (c : Config) (o : Opening) (bytes more : List ℕ) (first last : Heading) → first ≢ incomplete
    → IsHeadingOf (Some o) bytes first → IsHeadingOf (Some o) (bytes ++ more) last
    → judged c o last bytes ≡ judged c o first bytes
same_said c o bytes more first last not x y =
    ap (λ (h : Heading). judged c o h bytes)
    (one_of (Some o) (bytes ++ more) last first y (of_stays o bytes more first not x))

not_said : (c : Config) (o : Opening) (bytes more : List ℕ) (last : Heading)
    → IsHeadingOf (Some o) bytes incomplete → IsHeadingOf (Some o) (bytes ++ more) last
    → judged c o last bytes ≡ judged c o incomplete bytes
not_said c sends_head bytes more incomplete x y = refl
not_said c sends_head bytes more too_long x y = heading_before c too_long bytes
    (heading_waits bytes more too_long long_says x y)
not_said c sends_head bytes more (whole at answer) x y =
    heading_before c (whole at answer) bytes (heading_waits bytes more (whole at answer) (whole_says at answer) x y)
not_said c sends_head bytes more (answered at said) x y = absurd y
not_said c (relays n) bytes more incomplete x y = refl
not_said c (relays n) bytes more too_long x y =
    relay_before (mount_fed (slice_get c.relay n)) too_long bytes (answering_waits bytes more too_long long_says x y)
not_said c (relays n) bytes more (whole at answer) x y = absurd y
not_said c (relays n) bytes more (answered at said) x y =
    relay_before (mount_fed (slice_get c.relay n)) (answered at said) bytes (answering_waits bytes more
    (answered at said) (answered_says at said) x y)
not_said c (bare_source mount) bytes more last x y = ap (λ (h : Heading). judged c (bare_source mount) h bytes) y
not_said c (bare_rover mount) bytes more last x y = ap (λ (h : Heading). judged c (bare_rover mount) h bytes) y

pub said_same : (c : Config) (o : Opening) (bytes more : List ℕ) (first last : Heading)
    → IsHeadingOf (Some o) bytes first → IsHeadingOf (Some o) (bytes ++ more) last
    → judged c o last bytes ≡ judged c o first bytes
said_same c o bytes more incomplete last x y = not_said c o bytes more last x y
said_same c o bytes more too_long last x y = same_said c o bytes more too_long last long_says x y
said_same c o bytes more (whole at answer) last x y = same_said c o bytes more (whole at answer) last
    (whole_says at answer) x y
said_same c o bytes more (answered at said) last x y = same_said c o bytes more (answered at said) last
    (answered_says at said) x y

-- ---- one report

pub one_report : (c : Config) (script : List Event) (a b : Report) → IsReport c script a → IsReport c script b → a ≡ b
one_report c script a b x y =
    let same : x.0 ≡ y.0 =
    fun_ext (λ (n : ℕ). one_of (opened_as n script) (bytes_to n script) (x.0 n) (y.0 n) (x.1 n) (y.1 n)) in
    x.2 ∙ ap (λ (headings : ℕ → Heading). report c headings script) same ∙ sym y.2
