-- The report of a bare script: none of its connections sends a head.
use Rattle.std.proofs.Common.{◌≡◌, ◌∙◌, ℕ, Bool, true, false, ◌&&◌, List, [], ◌∷◌, ap, sym, Option, None, Some}
use Rattle.std.specs.Prelude.{◌==◌}
use Rattle.std.specs.Bool.{⊤}
use Rattle.std.proofs.Math.Path.{fun_ext}
use Rattle.std.proofs.lemmas.Bool.{and_parts}
use Rattle.session_script.specs.declared.Event.{Event}
use Rattle.session_script.specs.declared.Event.TheVariants as events
use Rattle.session_script.specs.declared.ScriptKind.TheVariants.{Bare}
use Rattle.session_script.specs.Line.{is_event}
use Rattle.session_script.specs.Numbers.{Numbers, no_numbers, opening, closing}
use Rattle.session_script.specs.Script.{IsSession, after_event, may_follow, is_session_after}
use Rattle.cast_config.specs.declared.config.Config.{Config}
use Rattle.session_model.specs.declared.report.Report.{Report}
use Rattle.session_model.specs.Headings.{Heading, incomplete}
use Rattle.session_model.specs.Judged.{Opening, sends_head, relays, bare_source, bare_rover}
use Rattle.session_model.specs.Reports as reports
use Rattle.session_model.specs.Reports.{no_heads, opened_as, opened_if, bytes_to, IsHeadingOf, AreHeadings, IsReport}
use Rattle.session_model.specs.Text.{report_text}
use Rattle.session_model.proofs.LawLemmas.{one_of, one_report}
use Rattle.caster_warm.specs.Warm.{IsWarmReport, warm_report}
use Rattle.run_texts.specs.Texts.{IsRunText, IsWarmText, bare_report, bare_report_text}

-- it did not open, or as a bare source or rover
abbrev IsBare : Option Opening → Type 0
IsBare None = ⊤
IsBare (Some sends_head) = ⊥
IsBare (Some (relays n)) = ⊥
IsBare (Some (bare_source mount)) = ⊤
IsBare (Some (bare_rover mount)) = ⊤

if_bare : (here : Bool) (opening : Opening) (later : Option Opening) → IsBare (Some opening) → IsBare later
    → IsBare (opened_if here opening later)
if_bare true opening later first more = first
if_bare false opening later first more = more

-- an event of a bare session is of its kind, and so are those behind it
event_is : (numbers : Numbers) (event : Event) (later : List Event)
    → is_session_after Bare numbers (event ∷ later) ≡ true
    → (is_event Bare event ≡ true) × (is_session_after Bare (after_event numbers event) later ≡ true)
event_is numbers event later is =
    let outer = and_parts (is_event Bare event && may_follow Bare numbers event)
    (is_session_after Bare (after_event numbers event) later) is in
    ((and_parts (is_event Bare event) (may_follow Bare numbers event) outer.0).0, outer.1)

opens_bare : (n : ℕ) (script : List Event) (numbers : Numbers) → is_session_after Bare numbers script ≡ true
    → IsBare (opened_as n script)
opens_bare n [] numbers is = tt
opens_bare n (events.Source k mount ∷ later) numbers is =
    if_bare (k == n) (bare_source mount) (opened_as n later) tt
    (opens_bare n later (opening numbers k) (event_is numbers (events.Source k mount) later is).1)
opens_bare n (events.Rover k mount ∷ later) numbers is =
    if_bare (k == n) (bare_rover mount) (opened_as n later) tt
    (opens_bare n later (opening numbers k) (event_is numbers (events.Rover k mount) later is).1)
opens_bare n (events.Open k ∷ later) numbers is =
    let e = (event_is numbers (events.Open k) later is).0 in absurd cc
opens_bare n (events.Relay k relay ∷ later) numbers is =
    let e = (event_is numbers (events.Relay k relay) later is).0 in absurd cc
opens_bare n (events.In k bytes ∷ later) numbers is =
    opens_bare n later numbers (event_is numbers (events.In k bytes) later is).1
opens_bare n (events.Turn k budget ∷ later) numbers is =
    opens_bare n later numbers (event_is numbers (events.Turn k budget) later is).1
opens_bare n (events.Break k ∷ later) numbers is =
    opens_bare n later (closing numbers k) (event_is numbers (events.Break k) later is).1
opens_bare n (events.End k ∷ later) numbers is =
    opens_bare n later (closing numbers k) (event_is numbers (events.End k) later is).1

no_head : (opening : Option Opening) (bytes : List ℕ) (heading : Heading) → IsBare opening
    → IsHeadingOf opening bytes heading → heading ≡ incomplete
no_head None bytes heading bare is = is
no_head (Some sends_head) bytes heading bare is = absurd bare
no_head (Some (relays n)) bytes heading bare is = absurd bare
no_head (Some (bare_source mount)) bytes heading bare is = is
no_head (Some (bare_rover mount)) bytes heading bare is = is

headings_bare : (script : List Event) (headings : ℕ → Heading) → IsSession Bare script
    → AreHeadings script headings → headings ≡ no_heads
headings_bare script headings is are =
    fun_ext (λ (n : ℕ). no_head (opened_as n script) (bytes_to n script) (headings n)
    (opens_bare n script no_numbers is) (are n))

pub bare_is_report : (c : Config) (script : List Event) (r : Report) → IsSession Bare script → IsReport c script r
    → r ≡ bare_report c script
bare_is_report c script r session is =
    is.2 ∙ ap (λ (headings : ℕ → Heading). reports.report c headings script) (headings_bare script is.0 session is.1)

pub bare_text : (c : Config) (script : List Event) (text : List ℕ) → IsSession Bare script → IsRunText c script text
    → text ≡ bare_report_text c script
unfolding bare_report_text
bare_text c script text session is =
    is.text_is ∙ ap (report_text c) (bare_is_report c script is.report session is.is)

pub one_text : (c : Config) (script : List Event) (a b : List ℕ) → IsRunText c script a → IsRunText c script b → a ≡ b
one_text c script a b x y =
    x.text_is ∙ ap (report_text c) (one_report c script x.report y.report x.is y.is) ∙ sym y.text_is

-- and so is that of a run in which rovers are greeted
one_warm_report : (c : Config) (script : List Event) (a b : Report) → IsWarmReport c script a
    → IsWarmReport c script b → a ≡ b
one_warm_report c script a b x y =
    let same : x.0 ≡ y.0 =
    fun_ext (λ (n : ℕ). one_of (opened_as n script) (bytes_to n script) (x.0 n) (y.0 n) (x.1 n) (y.1 n)) in
    x.2 ∙ ap (λ (headings : ℕ → Heading). warm_report c headings script) same ∙ sym y.2

pub one_warm_text : (c : Config) (script : List Event) (a b : List ℕ) → IsWarmText c script a
    → IsWarmText c script b → a ≡ b
one_warm_text c script a b x y =
    x.text_is ∙ ap (report_text c) (one_warm_report c script x.report y.report x.is y.is) ∙ sym y.text_is
